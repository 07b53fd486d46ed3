-- What holds of spectra over exact and over full arithmetics.
use Rattle.std.specs.Prelude.{◌≡◌, ℕ, true, List, map, length}
use Rattle.arithmetic.specs.Meaning.{Meaning}
use Rattle.arithmetic.specs.Laws.{Divides}
use Rattle.plan.specs.Radices.{size}
use Rattle.spectra.specs.Tones.{tones}
use Rattle.spectra.specs.Spectra.{spectrum, inverse, spectra_product, convolution}

-- the elements x have the values of the defining sums of a
abbrev pub TonesOf : {A R : Type 0} → Meaning A R → List A → List A → Type 0
TonesOf m a x = map m.value x ≡ spectrum m a

-- whatever the radices, the recursion gives tones by the defining sums, so all plans of a length agree
abbrev pub AllPlansAgree : {A R : Type 0} → Meaning A R → Type 0
AllPlansAgree {A} m =
    (rs : List ℕ) (a : List A) → Divides (size rs) m.span → length a ≡ size rs → TonesOf m a (tones m rs a)

-- the inverse restores the samples from their tones
abbrev pub InverseRestores : {A R : Type 0} → Meaning A R → Type 0
InverseRestores {A} m =
    (a x : List A) → Divides (length a) m.span → TonesOf m a x → inverse m x ≡ map m.value a

-- the product of two spectra is the spectrum of the cyclic convolution
abbrev pub ProductIsConvolution : {A R : Type 0} → Meaning A R → Type 0
ProductIsConvolution {A} m =
    (a b x y : List A) → Divides (length a) m.span → length b ≡ length a → TonesOf m a x → TonesOf m b y → spectra_product m x y ≡ spectrum m (convolution m a b)

-- so its inverse is the cyclic convolution
abbrev pub ConvolutionBySpectra : {A R : Type 0} → Meaning A R → Type 0
ConvolutionBySpectra {A} m =
    (a b x y : List A) → Divides (length a) m.span → length b ≡ length a → TonesOf m a x → TonesOf m b y → inverse m (spectra_product m x y) ≡ convolution m a b

-- all of that, over an arithmetic that says whether it is exact and whether full
pub record SpectraLaws {A R : Type 0} (m : Meaning A R) : Type 0 where
  pub agree : m.exact ≡ true → AllPlansAgree m
  pub restore : m.full ≡ true → InverseRestores m
  pub multiply : m.full ≡ true → ProductIsConvolution m
  pub convolve : m.full ≡ true → ConvolutionBySpectra m
