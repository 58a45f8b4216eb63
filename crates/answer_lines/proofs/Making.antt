-- What is left of a vector that is cut back, and what is put after a group of lines.
use Rattle.std.proofs.Common.{◌≡◌, ℕ, ◌+◌, ◌*◌, ◌/◌, ◌%◌, ◌^◌, ◌<◌, ◌≤◌, true, false, List, [], ◌∷◌, ◌++◌, length}
use Rattle.std.proofs.Common.{get_or, take, drop}
use Rattle.std.proofs.Common.{Result, Ok, Err, is_err, OnOk, OnErr, inl, inr}
use Rattle.std.proofs.Common.{refl, sym, ap, ap₂, ◌∙◌, append_assoc, take_at, arith}
use Rattle.std.specs.Fmt.{decimal}
use Rattle.std.proofs.lemmas.Bool.{cases_lt}
use Rattle.std.proofs.lemmas.Bool.Decides.{nat_tests}
use Rattle.std.proofs.lemmas.Fmt.{decimal_digit}
use Rattle.std.proofs.lemmas.List.{drop-append-le, length-take-le, take-append-le, take_more}
use borrow.Rule.Slice.PartMut.{put_mid}
use Rattle.std.proofs.lemmas.Slice.{take-put_mid}
use Rattle.std.proofs.Math.Seq.{drop-append-add, drop-drop}
use Rattle.std.specs.Simd.Lanes.{put_chunk}
use Rattle.std.proofs.lemmas.Simd.{put_chunk_is}
use Rattle.itoa.proofs.Decimal.{decimal_two, decimal_pair, PAIRS_at}
use Rattle.answer_lines.specs.declared.groups.TheConstants.{PAIRS}
use Rattle.answer_lines.specs.Lines.{front_digits, last_digits}
use Rattle.answer_lines.specs.Raw.{raw_label, raw_labels}
use Rattle.answer_lines.proofs.Facts.{raw_labels-append}

pub refused : {T E : Type 0} {P : Type 0} (r : Result T E) → is_err r ≡ true → OnErr r P → P
refused (Ok x) e p = absurd (cc)
refused (Err x) e p = p

pub accepted : {T E : Type 0} {P : Type 0} (r : Result T E) → is_err r ≡ false → OnOk r P → P
accepted (Ok x) e p = p
accepted (Err x) e p = absurd (cc)

-- a list that begins with old is old once cut back to its length
pub cut_back : {now xs old end : List ℕ} {n : ℕ} (ys all : List ℕ)
    → end ≡ take n now → now ≡ xs → xs ++ ys ≡ old ++ all → length old ≤ length xs → n ≡ length old
    → end ≡ old
cut_back {now} {xs} {old} {end} {n} ys all cut same e longer at =
    cut
    ∙ ap₂ (λ k l. take k l) at same
    ∙ sym (take-append-le (length old) xs ys longer)
    ∙ ap (λ l. take (length old) l) e
    ∙ take_at old all (length old) refl

-- a number's digits before the last two, and the last two
front_last : (n : ℕ) → n < 2 ^ 64 → front_digits (n / 100) ++ last_digits n ≡ decimal n
front_last n small =
    elim (cases_lt n 10) [
      | inl one ↦ grind (arith, nat_tests, decimal_digit n one)
      | inr more ↦
          elim (cases_lt n 100) [
            | inl two ↦ grind (arith, nat_tests, decimal_two n more two)
            | inr many ↦ grind (arith, nat_tests, decimal_pair n many small)
          ]
    ]

-- a line: its head, the last two digits of its number, a space, a text and a line feed
pub line_put : (letter n : ℕ) (head text end : List ℕ) {made rest : List ℕ}
    → n < 2 ^ 64 → head ≡ letter ∷ 32 ∷ front_digits (n / 100) → made ≡ head ++ (last_digits n ++ rest)
    → rest ≡ 32 ∷ (text ++ (10 ∷ end))
    → made ≡ letter ∷ 32 ∷ (decimal n ++ 32 ∷ [] ++ text ++ 10 ∷ [] ++ end)
line_put letter n head text end {made} {rest} small is put left =
    put
    ∙ ap₂ (λ (xs ys : List ℕ). xs ++ (last_digits n ++ ys)) is left
    ∙ ap (λ (xs : List ℕ). letter ∷ 32 ∷ xs)
    (sym (append_assoc (front_digits (n / 100)) (last_digits n) (32 ∷ (text ++ (10 ∷ end))))
    ∙ ap (λ (xs : List ℕ). xs ++ (32 ∷ (text ++ (10 ∷ end)))) (front_last n small)
    ∙ sym (append_assoc (decimal n ++ 32 ∷ [] ++ text) (10 ∷ []) end
    ∙ append_assoc (decimal n ++ 32 ∷ []) text (10 ∷ end)
    ∙ append_assoc (decimal n) (32 ∷ []) (text ++ (10 ∷ end))))

-- a head is copied to the place a of some lines, in front of what is there
pub head_put : (a start : ℕ) (lines head : List ℕ)
    → start ≤ length head → a + length head ≤ length lines
    → drop (a + start) (put_chunk a lines head) ≡ drop start head ++ drop (a + length head) lines
head_put a start lines head within room =
    let tail = drop (length head) (drop a lines) in
    ap (drop (a + start)) (put_chunk_is a lines head room)
    ∙ ap (λ (n : ℕ). drop (n + start) (take a lines ++ (head ++ tail))) (sym (length-take-le a lines (omega arith)))
    ∙ drop-append-add (take a lines) (head ++ tail) start
    ∙ drop-append-le start head tail within
    ∙ ap (λ (xs : List ℕ). drop start head ++ xs) (drop-drop (length head) a lines)

-- the table has the two digits of each number below 100
pub pair_at : (p : ℕ)
    → p < 100 → (get_or PAIRS (p * 2) 0 ≡ 48 + p / 10) × (get_or PAIRS (p * 2 + 1) 0 ≡ 48 + p % 10)
pair_at p below = PAIRS_at p below

-- the lines of a group are put, and those of the rest are left
pub group_put : (lines : ℕ → List ℕ → List ℕ)
    → ((v : ℕ) (xs ys : List ℕ) → lines v (xs ++ ys) ≡ lines v xs ++ lines (v + length xs) ys)
    → {after all whole : List ℕ} (v : ℕ) (before group rest : List ℕ)
    → after ≡ before ++ lines v group → all ≡ group ++ rest → before ++ lines v all ≡ whole
    → after ++ lines (v + length group) rest ≡ whole
group_put lines append {after} {all} {whole} v before group rest put parts left =
    ap (λ (text : List ℕ). text ++ lines (v + length group) rest) put
    ∙ append_assoc before (lines v group) (lines (v + length group) rest)
    ∙ ap (λ (text : List ℕ). before ++ text) (sym (append v group rest))
    ∙ ap (λ (xs : List ℕ). before ++ lines v xs) (sym parts)
    ∙ left

-- the bytes of one label more are put after those of the labels before it
pub raw_more : (bytes labels word : List ℕ) (i end room : ℕ)
    → take end bytes ≡ raw_labels (take i labels) → end ≤ length bytes → i < length labels
    → word ≡ raw_label (get_or labels i 0)
    → take (end + 8) (put_mid end room bytes word) ≡ raw_labels (take (i + 1) labels)
raw_more bytes labels word i end room made within below is =
    let long : length word ≡ 8 = ap length is in
    take-put_mid end room bytes word (end + 8) (omega arith) within
    ∙ ap₂ (λ (xs ys : List ℕ). xs ++ ys) made is
    ∙ sym (ap raw_labels (take_more labels i 0 below) ∙ raw_labels-append (take i labels) (get_or labels i 0 ∷ []))
