-- A label's leading eight bits, and how buckets rise with labels.
use Rattle.std.proofs.Common.{◌≡◌, ⊎_elim, refl, subst, sym, ℕ, ◌+◌, ◌*◌, ◌/◌, ◌^◌, ◌<◌, ◌≤◌, arith}
use Rattle.std.proofs.Math.Nat.{div-lt_iff_lt-mul, div-mul-le_self}
use Rattle.std.proofs.Math.Pow.{pow_mono}
use Rattle.std.proofs.lemmas.Bool.{cases_eq, cases_lt, lt-ltb, le-ltb}
use Rattle.std.proofs.lemmas.Nat.{leading_length, le-div, pow-add, pow_pos}
use Rattle.obim_pool.specs.Scales.{BucketsRise, Widths, bits_after, bucket_among, scale_bucket, widening_bucket}

-- a label has at most eight bits and those after them, and no fewer if there are some
record Leads (label bits : ℕ) : Type 0 where
  below : label < 2 ^ (bits + 8)
  from : 0 < bits → 2 ^ (bits + 7) ≤ label

leads : (label : ℕ) → label < 2 ^ 64 → Leads label (bits_after label)
leads label wide =
    let length = leading_length 64 label wide in
    let bits = bits_after label in
    record {
      below =
          let wider = pow_mono {i = length.0} {j = bits + 8} (omega (arith, length.1)) in
          omega (arith, length.2, wider);
      from = λ some.
          let top = pow_mono {i = bits + 7 + 1} {j = length.0} (omega (arith, length.1)) in
          omega (arith, top, length.3, pow-add 2 (bits + 7) 1);
    }

-- without the bits after them the leading eight are left
pub eight_bits : (label : ℕ) → label < 2 ^ 64 → label / 2 ^ bits_after label < 256
eight_bits label wide =
    let bits = bits_after label in
    (div-lt_iff_lt-mul {k = 2 ^ bits} {x = label} {y = 256} (pow_pos bits)).1
    (omega (arith, (leads label wide).below, pow-add 2 bits 8))

-- of which the first is set, if bits follow
at_least : (label : ℕ) → label < 2 ^ 64 → 0 < bits_after label → 128 ≤ label / 2 ^ bits_after label
at_least label wide some =
    let bits = bits_after label in
    le-div 128 label (2 ^ bits) (pow_pos bits) (omega (arith, (leads label wide).from some, pow-add 2 bits 7))

-- a label below a power of two
few_bits : (label k : ℕ) → label < 2 ^ 64 → label < 2 ^ (k + 8) → bits_after label ≤ k
few_bits label k wide below =
    ⊎_elim
    (λ (more : k < bits_after label).
    let power = pow_mono {i = k + 8} {j = bits_after label + 7} (omega (arith, more)) in
    absurd (omega (arith, below, power, (leads label wide).from (omega (arith, more)))))
    (λ (few : bits_after label ≤ k). few)
    (cases_lt k (bits_after label))

-- and one from there on
more_bits : (label k : ℕ) → label < 2 ^ 64 → 2 ^ (k + 8) ≤ label → k < bits_after label
more_bits label k wide from =
    ⊎_elim
    (λ (more : k < bits_after label). more)
    (λ (few : bits_after label ≤ k).
    let power = pow_mono {i = bits_after label + 8} {j = k + 8} (omega (arith, few)) in
    absurd (omega (arith, from, power, (leads label wide).below)))
    (cases_lt k (bits_after label))

-- a label of no more than eight bits is its own bucket
pub narrow_bucket : (label : ℕ) → label < 256 → label ≡ widening_bucket label
narrow_bucket label narrow =
    let few = few_bits label 0 (omega (arith, narrow)) narrow in
    let none : bits_after label ≡ 0 = omega (arith, few) in
    subst (λ (bits : ℕ). label ≡ bits * 128 + label / 2 ^ bits) (sym none) (omega arith)

-- so much for the bucket
bucket_below : (label k : ℕ) → label < 2 ^ 64 → label < 2 ^ (k + 8) → widening_bucket label < k * 128 + 256
bucket_below label k wide below = omega (arith, few_bits label k wide below, eight_bits label wide)

bucket_from : (label k : ℕ) → label < 2 ^ 64 → 2 ^ (k + 8) ≤ label → k * 128 + 256 ≤ widening_bucket label
bucket_from label k wide from =
    let more = more_bits label k wide from in omega (arith, more, at_least label wide (omega (arith, more)))

div_rises : (k a b : ℕ) → 0 < k → a ≤ b → a / k ≤ b / k
div_rises k a b some le = le-div (a / k) b k some (omega (arith, div-mul-le_self a k, le))

pub widening_rises : BucketsRise widening_bucket
widening_rises a b le wide =
    let i = bits_after a in
    let j = bits_after b in
    let few = few_bits a j (omega (arith, le, wide)) (omega (arith, le, (leads b wide).below)) in
    ⊎_elim
    (λ (same : i ≡ j).
    let rises = div_rises (2 ^ j) a b (pow_pos j) le in
    subst (λ (bits : ℕ). bits * 128 + a / 2 ^ bits ≤ widening_bucket b) (sym same) (omega (arith, rises)))
    (λ apart.
    omega (arith, apart, few, eight_bits a (omega (arith, le, wide)), at_least b wide (omega (arith, apart, few))))
    (cases_eq i j)

-- ---- scales

-- a label of fewer than 256 widths is below a power of two
few_widths : (shift label : ℕ) → label / 2 ^ shift < 256 → label < 2 ^ (shift + 8)
few_widths shift label few =
    omega (arith, (div-lt_iff_lt-mul {k = 2 ^ shift} {x = label} {y = 256} (pow_pos shift)).0 few, pow-add 2 shift 8)

many_widths : (shift label : ℕ) → 256 ≤ label / 2 ^ shift → 2 ^ (shift + 8) ≤ label
many_widths shift label many =
    ⊎_elim
    (λ (below : label < 2 ^ (shift + 8)).
    let few = (div-lt_iff_lt-mul {k = 2 ^ shift} {x = label} {y = 256} (pow_pos shift)).1
    (omega (arith, below, pow-add 2 shift 8)) in
    absurd (omega (arith, few, many)))
    (λ (from : 2 ^ (shift + 8) ≤ label). from)
    (cases_lt label (2 ^ (shift + 8)))

-- the three parts of a scale
narrow : (scale : Widths) (w label : ℕ) → w < 256 → bucket_among scale w label ≡ widening_bucket label
narrow scale w label few = rw (lt-ltb w 256 few) refl

even : (scale : Widths) (w label : ℕ) → 256 ≤ w → w < scale.even → bucket_among scale w label ≡ scale.shift * 128 + w
even scale w label many within = rw (le-ltb w 256 many, lt-ltb w scale.even within) refl

wide_again : (scale : Widths) (w label : ℕ) → 256 ≤ w → scale.even ≤ w
    → bucket_among scale w label ≡ widening_bucket label + scale.even
wide_again scale w label many past = rw (le-ltb w 256 many, le-ltb w scale.even past) refl

module _ (scale : Widths) (a b : ℕ) (le : a ≤ b) (wide : b < 2 ^ 64) where
  abbrev Rises : Type 0
  Rises = scale_bucket scale a ≤ scale_bucket scale b

  abbrev wa : ℕ
  wa = a / 2 ^ scale.shift

  abbrev wb : ℕ
  wb = b / 2 ^ scale.shift

  widths_rise : wa ≤ wb
  widths_rise = div_rises (2 ^ scale.shift) a b (pow_pos scale.shift) le

  -- by the place of the larger label
  from_narrow : wa < 256 → Rises
  from_narrow few =
      let rises = widening_rises a b le wide in
      let at = narrow scale wa a few in
      ⊎_elim (λ (few' : wb < 256). omega (arith, at, narrow scale wb b few', rises))
      (λ (many : 256 ≤ wb).
      ⊎_elim
      (λ (within : wb < scale.even).
      let low = bucket_below a scale.shift (omega (arith, le, wide)) (few_widths scale.shift a few) in
      omega (arith, at, even scale wb b many within, low, many))
      (λ (past : scale.even ≤ wb). omega (arith, at, wide_again scale wb b many past, rises)) (cases_lt wb scale.even))
      (cases_lt wb 256)

  from_even : 256 ≤ wa → wa < scale.even → Rises
  from_even many within =
      let at = even scale wa a many within in
      let many' : 256 ≤ wb = omega (arith, many, widths_rise) in
      ⊎_elim (λ (within' : wb < scale.even). omega (arith, at, even scale wb b many' within', widths_rise))
      (λ (past : scale.even ≤ wb).
      let high = bucket_from b scale.shift wide (many_widths scale.shift b many') in
      omega (arith, at, wide_again scale wb b many' past, high, within))
      (cases_lt wb scale.even)

  from_wide : 256 ≤ wa → scale.even ≤ wa → Rises
  from_wide many past =
      let rises = widening_rises a b le wide in
      let many' : 256 ≤ wb = omega (arith, many, widths_rise) in
      let past' : scale.even ≤ wb = omega (arith, past, widths_rise) in
      omega (arith, wide_again scale wa a many past, wide_again scale wb b many' past', rises)

  rises : Rises
  rises =
      ⊎_elim from_narrow
      (λ (many : 256 ≤ wa). ⊎_elim (from_even many) (from_wide many) (cases_lt wa scale.even)) (cases_lt wa 256)

pub scale_rises : (scale : Widths) → BucketsRise (scale_bucket scale)
scale_rises scale a b le wide = rises scale a b le wide
