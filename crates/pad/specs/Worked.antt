-- Worked cases, from the bytes of a file to its tones.
use Rattle.std.specs.Prelude.{◌≡◌, ℕ, List, [], ◌∷◌, ℤ, pos, neg_ℤ, Ok}
use Rattle.fixed.specs.declared.Fixed.{Fixed}
use Rattle.fixed.specs.Pairs.{fixed, pair, entered}
use Rattle.plan.specs.Dealing.{dealt}
use Rattle.plan.specs.Radices.{turns}
use Rattle.quarter.specs.Entries.{entry}
use Rattle.spectra.specs.Tones.{tones}
use Rattle.pad.specs.Reported.{spectrum_in}

-- four samples with x = 4, 0, 3, 6 and y = 0
abbrev pub four_samples : List (ℤ × ℤ)
four_samples = (pos 4, pos 0) ∷ (pos 0, pos 0) ∷ (pos 3, pos 0) ∷ (pos 6, pos 0) ∷ []

-- their file
abbrev pub four_file : List ℕ
four_file =
    0x04 ∷ 0x00 ∷ 0x00 ∷ 0x00 ∷ 0x00 ∷ 0x00 ∷ 0x00 ∷ 0x00
    ∷ 0x03 ∷ 0x00 ∷ 0x00 ∷ 0x00 ∷ 0x06 ∷ 0x00 ∷ 0x00 ∷ 0x00
    ∷ 0x10 ∷ 0x00 ∷ 0x00 ∷ 0x00 ∷ 0x04 ∷ 0x00 ∷ 0x00 ∷ 0x01 ∷ []

-- their tones
abbrev pub four_tones : List Fixed
four_tones =
    pair (pos 13312) (pos 0) ∷ pair (pos 1024) (pos 6144) ∷ pair (pos 1024) (pos 0) ∷ pair (pos 1024) (neg_ℤ (pos 6144)) ∷ []

pub record WorkedCases : Type 0 where
  pub deal_by_2_3 : dealt {A = ℕ} 0 (2 ∷ 3 ∷ []) (0 ∷ 1 ∷ 2 ∷ 3 ∷ 4 ∷ 5 ∷ []) ≡ 0 ∷ 2 ∷ 4 ∷ 1 ∷ 3 ∷ 5 ∷ []
  pub deal_by_3_2 : dealt {A = ℕ} 0 (3 ∷ 2 ∷ []) (0 ∷ 1 ∷ 2 ∷ 3 ∷ 4 ∷ 5 ∷ []) ≡ 0 ∷ 3 ∷ 1 ∷ 4 ∷ 2 ∷ 5 ∷ []
  pub turns_at_512 : turns (4 ∷ 4 ∷ 4 ∷ 4 ∷ 2 ∷ []) ≡ 9216
  pub entry_64 : entry 64 ≡ (pos 759250125, pos 759250125)
  pub turn_by_64 : fixed.turn (pair (pos 536870912) (pos 0)) 64 ≡ pair (pos 379625063) (neg_ℤ (pos 379625062))
  pub tones_of_four : tones fixed (4 ∷ []) (entered four_samples) ≡ four_tones
  pub tones_of_four_by_two : tones fixed (2 ∷ 2 ∷ []) (entered four_samples) ≡ four_tones
  pub spectrum_of_four : spectrum_in four_file ≡ Ok (record { turns = 16; tones = four_tones })
