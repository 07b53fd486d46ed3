-- The transform, the inverse and the convolution for C: the status, and then what is written out and what lent lists hold.
use Rattle.std.specs.Prelude.{◌≡◌, ℕ, List, length}
use Rattle.arithmetic.specs.Meaning.{Meaning}
use Rattle.spectrum.specs.Granted.{transformed, inverted, convolved, where_granted, cleared}
use Rattle.spectra.specs.Spectra.{inverse, convolution}
use Rattle.spectra.specs.Tones.{tones}
use Rattle.crossing.specs.declared.status.Status.{Status}
use Rattle.crossing.specs.Answers.{status_of, answer_or}

pub record Transforms {A R : Type 0} (m : Meaning A R) (rs : List ℕ) (turns : ℕ) (buf work : List A) (status : Status) (turns' : ℕ) (buf' work' : List A) : Type 0 where
  pub status_is : status ≡ status_of (transformed m.span rs (length buf) (length work))
  pub turns_are : turns' ≡ answer_or turns (transformed m.span rs (length buf) (length work))
  pub buf_is : buf' ≡ where_granted (transformed m.span rs (length buf) (length work)) (tones m rs buf) buf
  pub work_is : work' ≡ cleared m (transformed m.span rs (length buf) (length work)) work

pub record Inverts {A R : Type 0} (m : Meaning A R) (rs : List ℕ) (buf work : List A) (status : Status) (buf' work' : List A) : Type 0 where
  pub status_is : status ≡ status_of (inverted m rs (length buf) (length work))
  pub buf_is : buf' ≡ where_granted (inverted m rs (length buf) (length work)) (inverse m buf) buf
  pub work_is : work' ≡ cleared m (inverted m rs (length buf) (length work)) work

pub record Convolves {A R : Type 0} (m : Meaning A R) (rs : List ℕ) (a b out work : List A) (status : Status) (out' work' : List A) : Type 0 where
  pub status_is : status ≡ status_of (convolved m rs (length a) (length b) (length out) (length work))
  pub out_is : out' ≡ where_granted (convolved m rs (length a) (length b) (length out) (length work)) (convolution m a b) out
  pub work_is : work' ≡ cleared m (convolved m rs (length a) (length b) (length out) (length work)) work
