use Rattle.std.proofs.Common.{◌≡◌, ap, ◌∙◌}
use Rattle.std.specs.Str.Iter.{split_whitespace_rest}
use Rattle.casework.proofs.Counting.{counted_words}
use Rattle.casework.proofs.Spaces.{counted_spaced}
use Rattle.casework.proofs.lists.each_word.Goals as goal

pub returns : goal.returns
returns g c =
    let whole = ap split_whitespace_rest c.map.ensures.source ∙ c.split_whitespace.ensures.rest in
    let count = counted_words _ (λ x r. r ≡ x) c.args.text.now c.map.result whole c.try_collect.result c.try_collect.ensures.ran in
    record {
      count = count;
      spaced = counted_spaced c.args.text.now c.try_collect.result count;
    }
