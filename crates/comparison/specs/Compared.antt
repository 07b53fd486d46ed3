-- The comparison of the strokes in two files.
use Rattle.std.specs.Prelude.{◌≡◌, ℕ, List, length, Ok, Err, Result}
use Rattle.std.specs.Result.{result_map_both}
use Rattle.refusal.specs.declared.Fault.{Fault}
use Rattle.refusal.specs.declared.Fault.TheVariants.{File}
use Rattle.stroke.specs.declared.fault.FileFault.{FileFault}
use Rattle.stroke.specs.Contents.{Contents}
use Rattle.stroke.specs.Reading.{decode}
use Rattle.matching.specs.declared.matched.Match.{Match}
use Rattle.matching.specs.Lags.{match_at}
use Rattle.matching.specs.Matched.{matched, BestLags}
use Rattle.comparison.specs.declared.files.Comparison.{Comparison}

-- the best lags with the pair R of the paths' best lag
abbrev pub with_sum : Contents → Contents → Match → Comparison
with_sum a b m = record { lag = m.lag; sum = match_at a.path b.path m.lag; pressure = m.pressure }

-- of two strokes, whose pairs R have room for as many as the first has samples
unfoldable pub compared_strokes : Contents → Contents → Result Comparison Fault
compared_strokes a b = result_map_both (with_sum a b) (λ f. f) (matched a b (length a.path))

-- of two files as they were read: the first file's refusal comes before the second's
abbrev pub compared_reads : Result Contents FileFault → Result Contents FileFault → Result Comparison Fault
compared_reads (Err f) second = Err (File f)
compared_reads (Ok a) (Err f) = Err (File f)
compared_reads (Ok a) (Ok b) = compared_strokes a b

-- of the bytes of two files
unfoldable pub compared : List ℕ → List ℕ → Result Comparison Fault
compared bs cs = compared_reads (decode bs) (decode cs)

-- both lags are the least of the largest, and the sum is the pair R of the paths' lag
pub record Best (a b : Contents) (c : Comparison) : Type 0 where
  pub lags : BestLags a b (record { lag = c.lag; pressure = c.pressure })
  pub sum : c.sum ≡ match_at a.path b.path c.lag

-- the same of the strokes that are read in two files
pub record BestOf (bs cs : List ℕ) (c : Comparison) : Type 0 where
  pub first : Contents
  pub second : Contents
  pub read_first : decode bs ≡ Ok first
  pub read_second : decode cs ≡ Ok second
  pub best : Best first second c
