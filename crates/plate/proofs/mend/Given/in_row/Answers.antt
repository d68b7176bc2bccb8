-- The row that is handed out, with the kernel's own share, is that of the kernel: so it has the kernel's weights and taps.
use Rattle.std.proofs.Common.{sym, ap, ◌∙◌, subst, rules}
use Rattle.kernels_model.specs.declared.share.Share.{Share}
use Rattle.kernels_model.specs.declared.band.Band.{Band}
use Rattle.kernels_model.specs.Band.{band_for, BandOf}
use Rattle.kernels_model.proofs.Taps.Bands.{band_is}
use Rattle.plate.proofs.mend.Given.in_row.Goals as goal

pub returns : goal.returns
returns c =
    let p = c.args.p in
    let e = c.band_of.ensures ∙ ap (λ (q : Share). band_for p.shape p.radius q c.args.dy) c.requires.share_value in
    record {
      value_is = search rules;
      opacity_is = search rules;
      band_is = subst (λ (b : Band). BandOf p.shape p.radius c.args.dy b) (sym e) (band_is p.shape p.radius c.args.dy c.requires.radius_bound);
    }
