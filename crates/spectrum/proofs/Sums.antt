-- A tone, summed part by part.
use Rattle.std.proofs.Common.{◌≡◌, ℕ, ◌+◌, ◌*◌, ◌/◌, ◌%◌, ◌<◌, List, get_or, sym, ap, ◌∙◌, mod-lt, arith}
use Rattle.std.proofs.lemmas.Nat.{mod-mul-add}
use Rattle.arithmetic.specs.Meaning.{Meaning}
use Rattle.arithmetic.specs.Series.{series}
use Rattle.arithmetic.proofs.Series.{series_one, series_more, series_same}
use Rattle.spectra.specs.Tones.{term, tone}
use Rattle.spectrum.specs.Shapes.{Sound}
use Rattle.spectra.proofs.Circle.{exponent, exponent_none, exponent_one, exponent_more, step_below}
use Rattle.spectra.proofs.Rows.{place_below}

-- the first q parts of tone k summed, and the angle of the next
pub record Summed {A R : Type 0} (m : Meaning A R) (r len : ℕ) (block : List A) (k q : ℕ) (sum : A) (at step span : ℕ) : Type 0 where
  pub so_far : sum ≡ series m (term m r len block k) q
  pub turned : at ≡ exponent m.span (r * len) k q
  pub by : step ≡ k * (m.span / (r * len))
  pub circle : span ≡ m.span
  pub below : at < m.span

module _ {A R : Type 0} (m : Meaning A R) where
  -- what stands in the column, turned, is the tone's term
  term_at : (r len : ℕ) (xs : List A) (i j q at e : ℕ) → j < len → at ≡ q * len + j → e ≡ exponent m.span (r * len) (i * len + j) q → m.turn (get_or xs at m.zero) e ≡ term m r len xs (i * len + j) q
  term_at r len xs i j q at e l here is =
      ap (λ x. m.turn (get_or xs x m.zero) e) (here ∙ ap (λ x. q * len + x) (sym (mod-mul-add i len j l)))
      ∙ ap (m.turn (get_or xs (q * len + (i * len + j) % len) m.zero)) is

  -- a tone rests on its own column alone
  pub tone_same : (r len j i : ℕ) (xs ys : List A) → j < len → ((q : ℕ) → q < r → get_or xs (q * len + j) m.zero ≡ get_or ys (q * len + j) m.zero) → tone m r len xs (i * len + j) ≡ tone m r len ys (i * len + j)
  unfolding tone
  tone_same r len j i xs ys l h =
      let k = i * len + j in
      let e = exponent m.span (r * len) k in
      let column : k % len ≡ j = mod-mul-add i len j l in
      series_same m (term m r len xs k) (term m r len ys k) r
      (λ q p. ap (λ x. m.turn (get_or xs (q * len + x) m.zero) (e q)) column
      ∙ ap (λ x. m.turn x (e q)) (h q p)
      ∙ sym (ap (λ x. m.turn (get_or ys (q * len + x) m.zero) (e q)) column))

  module _ {r len i j : ℕ} (sound : Sound m.span r len) (row : i < r) (column : j < len) where
    pub step_within : (k u : ℕ) → k ≡ i * len + j → u ≡ m.span / (r * len) → k * u < m.span
    step_within k u is unit =
        let low : k < r * len = omega (arith, place_below i len j r row column) in
        let step = ap (λ x. k * x) unit in
        omega (arith, step_below m.span (r * len) k sound.circle sound.divides low)

    module _ {xs : List A} where
      pub summed_one : (k u at step span : ℕ) (x y : A) → k ≡ i * len + j → u ≡ m.span / (r * len) → at ≡ k * u → step ≡ k * u → span ≡ m.span → x ≡ m.turn y 0 → y ≡ get_or xs j m.zero → Summed m r len xs (i * len + j) 1 x at step span
      summed_one k u at step span x y is unit first by circle turned read =
          let l = i * len + j in
          let step_is : k * u ≡ l * (m.span / (r * len)) = ap (λ z. z * u) is ∙ ap (λ z. l * z) unit in
          record {
            so_far = turned ∙ ap (λ z. m.turn z 0) read ∙ term_at r len xs i j 0 j 0 column (omega arith) (exponent_none m.span (r * len) l)
                ∙ sym (series_one m (term m r len xs l));
            turned = first ∙ step_is ∙ exponent_one m.span (r * len) l (place_below i len j r row column);
            by = by ∙ step_is;
            circle = circle;
            below = let less = step_within k u is unit in omega arith;
          }

      pub summed_more : (at' step' span' p : ℕ) (x y z : A) {q at step span : ℕ} {sum : A} → Summed m r len xs (i * len + j) q sum at step span → 0 < q → at' ≡ (at + step) % span → step' ≡ step → span' ≡ span → p ≡ q * len + j → y ≡ get_or xs p m.zero → x ≡ m.turn y at → z ≡ m.sum sum x → Summed m r len xs (i * len + j) (q + 1) z at' step' span'
      summed_more at' step' span' p x y z {q} {at} {step} {span} {sum} so low on stays round here read turned added =
          let l = i * len + j in
          let terms = term m r len xs l in
          let some : 0 < r * len = omega (arith, place_below i len j r row column) in
          record {
            so_far = added ∙ ap (λ w. m.sum w x) so.so_far
                ∙ ap (m.sum (series m terms q)) (turned ∙ ap (λ w. m.turn w at) read ∙ term_at r len xs i j q p at column here so.turned)
                ∙ sym (series_more m terms q low);
            turned = on ∙ ap (λ w. (at + step) % w) so.circle ∙ ap (λ w. (at + w) % m.span) so.by
                ∙ ap (λ w. (w + l * (m.span / (r * len))) % m.span) so.turned
                ∙ exponent_more m.span (r * len) l sound.circle sound.divides q some;
            by = stays ∙ so.by;
            circle = round ∙ so.circle;
            below = rw (on ∙ ap (λ w. (at + step) % w) so.circle) (mod-lt (at + step) sound.circle);
          }

  pub summed_all : {r len k q at step span : ℕ} {sum : A} {xs : List A} → Summed m r len xs k q sum at step span → q ≡ r → sum ≡ tone m r len xs k
  unfolding tone
  summed_all {r} {len} {k} {xs = xs} so end = so.so_far ∙ ap (series m (term m r len xs k)) end
