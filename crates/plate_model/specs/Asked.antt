-- What a put and a fill ask for: places and pixels, before any plate or notebook.
use Rattle.std.specs.Prelude.{ℕ, min, get_or, Option, Some, None}
use Rattle.kernels_model.specs.declared.shape.Shape.{Shape}
use Rattle.kernels_model.specs.Shape.{top_under}
use Rattle.kernels_model.specs.declared.lens.Lens.{Lens}
use Rattle.kernels_model.specs.Lens.{blur}
use Rattle.plate_model.specs.Layout.{Size, place_at}
use Rattle.plate_model.specs.Lent.{Ask, Inputs}
use Rattle.plate_model.specs.Word.{Pixel, empty}

-- PUT
abbrev pub asked_place : Size → Ask → ℕ
asked_place z a = place_at z a.x a.y

-- the pixel that an accepted put asks for; a put with no shape is never accepted
abbrev pub known_shape : Option Shape → Shape
known_shape (Some s) = s
known_shape None = empty.shape

abbrev pub asked_pixel : Ask → Pixel
asked_pixel a = record { value = a.value; opacity = a.opacity; shape = known_shape a.shape; radius = a.radius }

-- FILL
-- "every pixel gets its value, its opacity, the one shape and the radius from its depth", "then at most the shape's top under R"
unfoldable pub filled : Size → Lens → Shape → Inputs → ℕ → Pixel
filled z l s f i =
    record {
      value = get_or f.values i 0;
      opacity = get_or f.opacities i 0;
      shape = s;
      radius = min (top_under s z.reach) (blur l (get_or f.depths i 0));
    }
