-- What a record looks at in its body, and a show's text in the pictures.
pub mod Bodies
pub mod Pictures
