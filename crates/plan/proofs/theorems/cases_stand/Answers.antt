use Rattle.std.proofs.Common.{refl}
use Rattle.plan.specs.Dealing.{dealt}
use Rattle.plan.proofs.theorems.cases_stand.Goals as goal

-- every case computes
pub returns : goal.returns
unfolding dealt
returns c =
    record {
      by_two_three = refl;
      by_three_two = refl;
      turns_of_512 = refl;
      three_eights = refl;
      nine_twos = refl;
      ten_twos = refl;
      a_one = refl;
      a_nine = refl;
      past_512 = refl;
      standard_of_one = refl;
      standard_of_480 = refl;
      standard_of_512 = refl;
      no_standard_of_11 = refl;
    }
