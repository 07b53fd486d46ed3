use Rattle.std.proofs.Common.{◌≡◌, ◌+◌, ◌-◌, ◌*◌, ◌/◌, ◌≤◌, length, refl, ap, ◌∙◌, arith, rules}
use borrow.Author.Rules.{scaled_fits≤}
use Rattle.spectra.specs.Tones.{combine}
use Rattle.spectra.specs.Stages.{staged}
use Rattle.spectra.proofs.Recursion.{combine_length}
use Rattle.spectra.proofs.Blocks.{block_within, blocks_more, blocks_all}
use Rattle.spectrum.proofs.shape.Shape.stage.Goals as goal

pub offset_bounds-buf-b : goal.offset_bounds-buf-b
offset_bounds-buf-b g c =
    let n = c.args.self.radix * c.args.self.len in
    let within = block_within c.loop-b.b _ n _ c.loop-b-test.true refl c.requires.whole in
    let reached : c.loop-b.b * n ≤ length c.args.buf.now = omega arith in
    search (rules, scaled_fits≤)

pub loop-b-preserved : goal.loop-b-preserved
loop-b-preserved g c =
    let m = g.X.Arithmetic.meaning in
    let s = c.args.self in
    let n = s.radix * s.len in
    let b = c.loop-b.b in
    let from = b * n in
    let room = block_within b from n _ c.loop-b-test.true refl c.requires.whole in
    let within : from + n ≤ length c.loop-b.buf = omega arith in
    let next : from + n ≡ (b + 1) * n = omega arith in
    let part : (b + 1) * n - from ≡ n = omega arith in
    let made = c.combine.ensures.after in
    let taken : (from + n) - from ≡ n = omega arith in
    rw (← next) (rw taken (blocks_more (combine m s.radix s.len) n (length c.args.buf.now / n) c.combine.new.block c.loop-b.invariant c.loop-b-test.true within (rw part at made) (ap length made ∙ combine_length m s.radix s.len _)))

pub returns-clause-after : goal.returns-clause-after
unfolding staged
returns-clause-after g c =
    let s = c.args.self in
    let n = s.radix * s.len in
    let end : c.loop-b.b ≡ length c.args.buf.now / n = omega arith in
    blocks_all (combine g.X.Arithmetic.meaning s.radix s.len) n (length c.args.buf.now / n) c.loop-b.invariant end
