-- Worked cases of the path arithmetic.
use Rattle.std.specs.Prelude.{◌≡◌, pos, negsuc}
use Rattle.path.specs.Paths.{sampled, paths}

pub record Worked : Type 0 where
  -- the square of (0, 1) is (-1, 0)
  pub square : paths.product (sampled (pos 0) (pos 1)) (sampled (pos 0) (pos 1)) ≡ sampled (negsuc 0) (pos 0)
  pub half : paths.part (sampled (pos 1) (pos 0)) 2 ≡ sampled (pos 1073741824) (pos 0)
