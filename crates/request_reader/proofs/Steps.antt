-- What one step of a reader of requests does.
use Rattle.std.proofs.Common.{◌≡◌, ◌≤◌, inl, inr, ℕ, ◌+◌, Bool, true, false, ◌&&◌, ◌||◌, List, [], ◌∷◌, ◌++◌, length}
use Rattle.std.proofs.Common.{Option, None, refl, sym, ap, subst, ◌∙◌, append-nil, append_assoc, length-append, arith, count_by}
use Rattle.dimacs_text.specs.declared.head.SectionHead.{SectionHead}
use Rattle.dimacs_text.specs.declared.fault.LineKind.{LineKind}
use Rattle.dimacs_text.specs.declared.fault.LineKind.TheVariants.{TooFew}
use Rattle.dimacs_text.specs.declared.request_draft.RequestDraft.{RequestDraft}
use Rattle.dimacs_text.specs.Faults.{IsFirstAmong}
use Rattle.dimacs_text.specs.Jobs.{Content}
use Rattle.dimacs_text.specs.AfterGraph.{after_graph, head_of, head_or_plain, AreSilent, IsWhole}
use Rattle.dimacs_text.specs.Heads.{begins_section}
use Rattle.std.specs.Option.{option_or}
use Rattle.dimacs_text.specs.RequestDrafts.{HasReadAfter, is_whole}
use Rattle.dimacs_text.proofs.Facts.{head_more}
use Rattle.request_reader.specs.Requests.{Outcome, whole, wrong, no_memory, told, IsCut, IsRequest}
use Rattle.request_reader.specs.Requests.{AreRequests, AreRequestsTo, AreShort}
use Rattle.request_reader.specs.Reading.{section_count, IsPassing, IsReading}
use Rattle.request_reader.proofs.Splits.{count-more, none_unanswered, silent_count, unanswered_more, unanswered_wrong}

-- requests after requests
pub then : (n middle : ℕ) (mid : List (List ℕ)) (next : ℕ) (end : List (List ℕ)) (outcomes : List Outcome) (first : ℕ)
    (all : List (List ℕ)) (later : List Outcome)
    → AreRequestsTo n middle mid first all outcomes → AreRequestsTo n next end middle mid later
    → AreRequestsTo n next end first all (outcomes ++ later)
then n middle mid next end [] first all later (number, is) on =
    subst (λ k. AreRequestsTo n next end k all later) (sym number)
    (subst (λ l. AreRequestsTo n next end middle l later) (sym is) on)
then n middle mid next end (outcome ∷ outcomes) first all later (ls, rest, parts, request, more) on =
    (ls, rest, parts, request, then n middle mid next end outcomes (first + length ls) rest later more on)

-- one request more
pub then_one : (n middle : ℕ) (ls rest : List (List ℕ)) (next first : ℕ) (all : List (List ℕ)) (outcomes : List Outcome)
    (outcome : Outcome)
    → AreRequestsTo n middle (ls ++ rest) first all outcomes → IsRequest n middle ls rest outcome
    → middle + length ls ≡ next
    → AreRequestsTo n next rest first all (outcomes ++ outcome ∷ [])
then_one n middle ls rest next first all outcomes outcome before request number =
    then n middle (ls ++ rest) next rest outcomes first all (outcome ∷ []) before
    (ls, rest, refl, request, (number, refl))

-- the next line becomes the last
pub shift : (n middle first : ℕ) (ls all : List (List ℕ)) (line : List ℕ) (more : List (List ℕ)) (outcomes : List Outcome)
    → AreRequestsTo n middle (ls ++ line ∷ more) first (all ++ line ∷ more) outcomes
    → AreRequestsTo n middle ((ls ++ line ∷ []) ++ more) first ((all ++ line ∷ []) ++ more) outcomes
shift n middle first ls all line more outcomes h =
    subst (λ l. AreRequestsTo n middle l first ((all ++ line ∷ []) ++ more) outcomes)
    (sym (append_assoc ls (line ∷ []) more))
    (subst (λ l. AreRequestsTo n middle (ls ++ line ∷ more) first l outcomes)
    (sym (append_assoc all (line ∷ []) more)) h)

told-next : (line number : ℕ) (old new : ℕ) → old ≡ told number → new ≡ told (old + 1) → new ≡ told (number + 1)
told-next line number old new e is = grind (arith)

-- the number of the next line
pub number-more : (first : ℕ) (all : List (List ℕ)) (line : List ℕ) (old new : ℕ)
    → old ≡ told (first + length all) → new ≡ told (old + 1)
    → new ≡ told (first + length (all ++ line ∷ []))
number-more first all line old new e is =
    told-next 0 (first + length all) old new e is
    ∙ ap (λ k. told k) (omega (arith, length-append all (line ∷ [])))

-- nothing came of the line
pub goes_on : (n : ℕ) (old new : RequestDraft) (b c : Bool) (v w : Option SectionHead) (number next first : ℕ) (all : List (List ℕ)) (line : List ℕ)
    (outcomes : List Outcome)
    → IsReading n old b v number first all (line ∷ []) outcomes
    → ((ls : List (List ℕ)) → HasReadAfter n ls old → HasReadAfter n (ls ++ line ∷ []) new)
    → is_whole new ≡ false
    → ((ls : List (List ℕ)) (job : Content) → HasReadAfter n ls new → IsWhole n ls job → ⊥)
    → (b && begins_section line) ≡ false → c ≡ (b || begins_section line) → w ≡ option_or v (head_of line)
    → next ≡ told (number + 1)
    → IsReading n new c w next first (all ++ line ∷ []) [] outcomes
goes_on n old new b c v w number next first all line outcomes p reads lacks never few section asks is = record {
  done = p.done;
  ls = p.ls ++ line ∷ [];
  parts = ap (λ l. l ++ line ∷ []) p.parts ∙ append_assoc p.done p.ls (line ∷ []);
  requests = λ more. shift n (first + length p.done) first p.ls all line more outcomes (p.requests more);
  read = reads p.ls p.read;
  lacking = lacks;
  unanswered = unanswered_more n p.ls line p.unanswered (λ job w. never (p.ls ++ line ∷ []) job (reads p.ls p.read) w);
  sections = count-more p.ls line b c p.sections few section;
  head_is = head_more p.ls line v w p.head_is asks;
  number = number-more first all line number next p.number is;
}

-- the line of a request that was refused is passed by
pub passes_by : (n : ℕ) (b c : Bool) (number next first : ℕ) (all : List (List ℕ)) (line : List ℕ) (outcomes : List Outcome)
    → IsPassing n b number first all (line ∷ []) outcomes
    → (b && begins_section line) ≡ false → c ≡ (b || begins_section line)
    → next ≡ told (number + 1)
    → IsPassing n c next first (all ++ line ∷ []) [] outcomes
passes_by n b c number next first all line outcomes p few section is = record {
  done = p.done;
  ls = p.ls ++ line ∷ [];
  parts = ap (λ l. l ++ line ∷ []) p.parts ∙ append_assoc p.done p.ls (line ∷ []);
  before = p.before;
  outcome = p.outcome;
  last = p.last;
  requests = λ more. shift n (first + length p.done) first p.ls all line more p.before (p.requests more);
  refused = λ more rest cut.
      subst (λ l. IsRequest n (first + length p.done) l rest p.outcome) (sym (append_assoc p.ls (line ∷ []) more))
      (p.refused (line ∷ more) rest (subst (λ l. IsCut l rest) (append_assoc p.ls (line ∷ []) more) cut));
  sections = count-more p.ls line b c p.sections few section;
  number = number-more first all line number next p.number is;
}

-- a request is refused at the line, by whatever makes it this outcome
stops : (n : ℕ) (draft : RequestDraft) (b c : Bool) (v : Option SectionHead) (number next first : ℕ) (all : List (List ℕ)) (line : List ℕ)
    (outcomes : List Outcome) (outcome : Outcome)
    → (p : IsReading n draft b v number first all (line ∷ []) outcomes)
    → ((more rest : List (List ℕ)) → IsCut (p.ls ++ line ∷ more) rest
    → IsRequest n (first + length p.done) (p.ls ++ line ∷ more) rest outcome)
    → (b && begins_section line) ≡ false → c ≡ (b || begins_section line)
    → next ≡ told (number + 1)
    → IsPassing n c next first (all ++ line ∷ []) [] (outcomes ++ outcome ∷ [])
stops n draft b c v number next first all line outcomes outcome p refused few section is = record {
  done = p.done;
  ls = p.ls ++ line ∷ [];
  parts = ap (λ l. l ++ line ∷ []) p.parts ∙ append_assoc p.done p.ls (line ∷ []);
  before = outcomes;
  outcome = outcome;
  last = refl;
  requests = λ more. shift n (first + length p.done) first p.ls all line more outcomes (p.requests more);
  refused = λ more rest cut.
      subst (λ l. IsRequest n (first + length p.done) l rest outcome) (sym (append_assoc p.ls (line ∷ []) more))
      (refused more rest (subst (λ l. IsCut l rest) (append_assoc p.ls (line ∷ []) more) cut));
  sections = count-more p.ls line b c p.sections few section;
  number = number-more first all line number next p.number is;
}

-- the line is wrong
pub turns_wrong : (n : ℕ) (draft : RequestDraft) (b c : Bool) (v : Option SectionHead) (number next first : ℕ) (all : List (List ℕ)) (line : List ℕ)
    (outcomes : List Outcome) (at : ℕ) (kind : LineKind)
    → IsReading n draft b v number first all (line ∷ []) outcomes
    → ((ls : List (List ℕ)) → HasReadAfter n ls draft
    → (at ≡ number) × ((more : List (List ℕ)) → IsFirstAmong (after_graph n (ls ++ line ∷ more)) (length ls + 2) kind))
    → (b && begins_section line) ≡ false → c ≡ (b || begins_section line)
    → next ≡ told (number + 1)
    → IsPassing n c next first (all ++ line ∷ []) [] (outcomes ++ wrong at kind ∷ [])
turns_wrong n draft b c v number next first all line outcomes at kind p fault few section is =
    let f = fault p.ls p.read in
    stops n draft b c v number next first all line outcomes (wrong at kind) p
    (λ more rest cut. record {
      before = length p.ls;
      number =
          f.0 ∙ p.number
          ∙ ap (λ k. told k) (omega (arith, ap (λ l. length l) p.parts, length-append p.done p.ls));
      unanswered = unanswered_wrong n p.ls line (length p.ls + 2) kind p.unanswered f.1 more;
      fault = f.1 more;
      cut = cut;
      inside = inl (omega (arith, length-append p.ls (line ∷ more)));
    }) few section is

-- memory was refused at the line
pub starves : (n : ℕ) (draft : RequestDraft) (b c : Bool) (v : Option SectionHead) (number next first : ℕ) (all : List (List ℕ)) (line : List ℕ)
    (outcomes : List Outcome)
    → IsReading n draft b v number first all (line ∷ []) outcomes
    → (b && begins_section line) ≡ false → c ≡ (b || begins_section line)
    → next ≡ told (number + 1)
    → IsPassing n c next first (all ++ line ∷ []) [] (outcomes ++ no_memory number ∷ [])
starves n draft b c v number next first all line outcomes p few section is =
    stops n draft b c v number next first all line outcomes (no_memory number) p
    (λ more rest cut. record {
      front = p.ls;
      here = line;
      after = more;
      parts = refl;
      number =
          p.number ∙ ap (λ k. told k) (omega (arith, ap (λ l. length l) p.parts, length-append p.done p.ls));
      unanswered = p.unanswered;
      cut = cut;
    }) few section is

-- before the first line of a request
begins_at : (n : ℕ) (draft : RequestDraft) (number first : ℕ) (all next : List (List ℕ)) (outcomes : List Outcome)
    → ((more : List (List ℕ)) → AreRequestsTo n (first + length all) (next ++ more) first (all ++ (next ++ more)) outcomes)
    → HasReadAfter n [] draft → is_whole draft ≡ false → number ≡ told (first + length all)
    → IsReading n draft false None number first all next outcomes
begins_at n draft number first all next outcomes requests read lacks is = record {
  done = all;
  ls = [];
  parts = sym (append-nil all);
  requests = requests;
  read = read;
  lacking = lacks;
  unanswered = none_unanswered n;
  sections = refl;
  head_is = refl;
  number = is;
}

-- before the first line of all
pub begins_all : (n : ℕ) (draft : RequestDraft) (number first : ℕ)
    → HasReadAfter n [] draft → is_whole draft ≡ false → number ≡ told (first + 0)
    → IsReading n draft false None number first [] [] []
begins_all n draft number first read lacks is =
    begins_at n draft number first [] [] [] (λ more. (omega arith, refl)) read lacks is

-- the request is whole with the line
pub completes : (n : ℕ) (old new fresh : RequestDraft) (b : Bool) (v w : Option SectionHead) (number next first : ℕ) (all : List (List ℕ))
    (line : List ℕ) (outcomes : List Outcome) (job : Content)
    → IsReading n old b v number first all (line ∷ []) outcomes
    → ((ls : List (List ℕ)) → HasReadAfter n ls old → HasReadAfter n (ls ++ line ∷ []) new)
    → ((ls : List (List ℕ)) → HasReadAfter n ls new → IsWhole n ls job)
    → w ≡ option_or v (head_of line) → next ≡ told (number + 1)
    → HasReadAfter n [] fresh → is_whole fresh ≡ false
    → IsReading n fresh false None next first (all ++ line ∷ []) [] (outcomes ++ whole number job (head_or_plain w) ∷ [])
completes n old new fresh b v w number next first all line outcomes job p reads ends asks is read lacks =
    begins_at n fresh next first (all ++ line ∷ []) [] (outcomes ++ whole number job (head_or_plain w) ∷ [])
    (λ more.
    then_one n (first + length p.done) (p.ls ++ line ∷ []) more (first + length (all ++ line ∷ [])) first
    ((all ++ line ∷ []) ++ more) outcomes (whole number job (head_or_plain w))
    (shift n (first + length p.done) first p.ls all line more outcomes (p.requests more))
    (record {
      front = p.ls;
      last = line;
      parts = refl;
      number =
          p.number ∙ ap (λ k. told k) (omega (arith, ap (λ l. length l) p.parts, length-append p.done p.ls));
      unanswered = p.unanswered;
      is_whole = ends (p.ls ++ line ∷ []) (reads p.ls p.read);
      head_is = ap head_or_plain (head_more p.ls line v w p.head_is asks);
    })
    (omega (
      arith,
      ap (λ l. length l) p.parts,
      length-append p.done p.ls,
      length-append p.ls (line ∷ []),
      length-append all (line ∷ []),
    )))
    read lacks (number-more first all line number next p.number is)

-- a second section line is known to come
pub waits : (n : ℕ) (draft : RequestDraft) (b : Bool) (v : Option SectionHead) (number first : ℕ) (all : List (List ℕ)) (line : List ℕ)
    (outcomes : List Outcome)
    → IsReading n draft b v number first all [] outcomes
    → IsReading n draft b v number first all (line ∷ []) outcomes
waits n draft b v number first all line outcomes p = record {
  done = p.done;
  ls = p.ls;
  parts = p.parts;
  requests = λ more. p.requests (line ∷ more);
  read = p.read;
  lacking = p.lacking;
  unanswered = p.unanswered;
  sections = p.sections;
  head_is = p.head_is;
  number = p.number;
}

-- so is a line of a request that was refused
pub waits_passing : (n : ℕ) (b : Bool) (number first : ℕ) (all : List (List ℕ)) (line : List ℕ) (outcomes : List Outcome)
    → IsPassing n b number first all [] outcomes
    → IsPassing n b number first all (line ∷ []) outcomes
waits_passing n b number first all line outcomes p = record {
  done = p.done;
  ls = p.ls;
  parts = p.parts;
  before = p.before;
  outcome = p.outcome;
  last = p.last;
  requests = λ more. p.requests (line ∷ more);
  refused = p.refused;
  sections = p.sections;
  number = p.number;
}

ends_at : (first : ℕ) (all done ls : List (List ℕ)) → all ≡ done ++ ls → first + length done + length ls ≡ first + length all
ends_at first all done ls parts = omega (arith, ap (λ l. length l) parts, length-append done ls)

-- a request that was refused ends before its second section line
pub ends_refused : (n : ℕ) (fresh : RequestDraft) (number first : ℕ) (all : List (List ℕ)) (line : List ℕ)
    (outcomes : List Outcome)
    → IsPassing n true number first all [] outcomes → begins_section line ≡ true
    → HasReadAfter n [] fresh → is_whole fresh ≡ false
    → IsReading n fresh false None number first all (line ∷ []) outcomes
ends_refused n fresh number first all line outcomes p begins read lacks =
    begins_at n fresh number first all (line ∷ []) outcomes
    (λ more.
    subst (λ os. AreRequestsTo n (first + length all) (line ∷ more) first (all ++ line ∷ more) os) (sym p.last)
    (then_one n (first + length p.done) p.ls (line ∷ more) (first + length all) first (all ++ line ∷ more) p.before
    p.outcome (p.requests (line ∷ more))
    (subst (λ l. IsRequest n (first + length p.done) l (line ∷ more) p.outcome) (append-nil p.ls)
    (p.refused [] (line ∷ more)
    (inl (ap (λ l. count_by begins_section l) (append-nil p.ls) ∙ p.sections, begins))))
    (ends_at first all p.done p.ls p.parts)))
    read lacks p.number

-- one that lacks lines is refused at its second section line
pub ends_short : (n : ℕ) (draft fresh : RequestDraft) (v : Option SectionHead) (number first : ℕ) (all : List (List ℕ)) (line : List ℕ)
    (outcomes : List Outcome)
    → IsReading n draft true v number first all [] outcomes → begins_section line ≡ true
    → ((ls : List (List ℕ)) → HasReadAfter n ls draft → IsFirstAmong (after_graph n ls) (length ls + 2) TooFew)
    → HasReadAfter n [] fresh → is_whole fresh ≡ false
    → IsReading n fresh false None number first all (line ∷ []) (outcomes ++ wrong number TooFew ∷ [])
ends_short n draft fresh v number first all line outcomes p begins short read lacks =
    begins_at n fresh number first all (line ∷ []) (outcomes ++ wrong number TooFew ∷ [])
    (λ more.
    then_one n (first + length p.done) p.ls (line ∷ more) (first + length all) first (all ++ line ∷ more) outcomes
    (wrong number TooFew) (p.requests (line ∷ more))
    (record {
      before = length p.ls;
      number = p.number ∙ ap (λ k. told k) (sym (ends_at first all p.done p.ls p.parts));
      unanswered = p.unanswered;
      fault = short p.ls p.read;
      cut = inl (p.sections, begins);
      inside = inr begins;
    })
    (ends_at first all p.done p.ls p.parts))
    read lacks p.number

-- after a section line a request lacks lines
pub never_silent : (n : ℕ) (draft : RequestDraft) (v : Option SectionHead) (number first : ℕ) (all next : List (List ℕ))
    (outcomes : List Outcome)
    → IsReading n draft true v number first all next outcomes
    → ((ls : List (List ℕ)) → HasReadAfter n ls draft → AreSilent n ls)
    → ⊥
never_silent n draft v number first all next outcomes p silent =
    let none = silent_count n p.ls (silent p.ls p.read) in
    let one = p.sections in
    omega (arith, none, one)

-- at the end of all lines
pub all_told : (n : ℕ) (draft : RequestDraft) (b : Bool) (v : Option SectionHead) (number first : ℕ) (all : List (List ℕ)) (outcomes : List Outcome)
    → IsReading n draft b v number first all [] outcomes
    → ((ls : List (List ℕ)) → HasReadAfter n ls draft → AreSilent n ls)
    → AreRequests n first all outcomes
all_told n draft b v number first all outcomes p silent = record {
  next = first + length p.done;
  end = p.ls;
  requests =
      subst (λ l. AreRequestsTo n (first + length p.done) p.ls first l outcomes) (append-nil all)
      (subst (λ l. AreRequestsTo n (first + length p.done) l first (all ++ []) outcomes) (append-nil p.ls) (p.requests []));
  silent = silent p.ls p.read;
}

pub last_short : (n : ℕ) (draft : RequestDraft) (b : Bool) (v : Option SectionHead) (number first : ℕ) (all : List (List ℕ)) (outcomes : List Outcome)
    → IsReading n draft b v number first all [] outcomes
    → ((ls : List (List ℕ)) → HasReadAfter n ls draft → IsFirstAmong (after_graph n ls) (length ls + 2) TooFew)
    → AreShort n first all outcomes number
last_short n draft b v number first all outcomes p short = record {
  next = first + length p.done;
  end = p.ls;
  requests =
      subst (λ l. AreRequestsTo n (first + length p.done) p.ls first l outcomes) (append-nil all)
      (subst (λ l. AreRequestsTo n (first + length p.done) l first (all ++ []) outcomes) (append-nil p.ls) (p.requests []));
  unanswered = p.unanswered;
  short = short p.ls p.read;
  number = p.number;
}

pub last_refused : (n : ℕ) (b : Bool) (number first : ℕ) (all : List (List ℕ)) (outcomes : List Outcome)
    → IsPassing n b number first all [] outcomes
    → AreRequests n first all outcomes
last_refused n b number first all outcomes p = record {
  next = first + length all;
  end = [];
  requests =
      subst (λ os. AreRequestsTo n (first + length all) [] first all os) (sym p.last)
      (then_one n (first + length p.done) p.ls [] (first + length all) first all p.before p.outcome
      (subst (λ l. AreRequestsTo n (first + length p.done) (p.ls ++ []) first l p.before) (append-nil all)
      (p.requests []))
      (subst (λ l. IsRequest n (first + length p.done) l [] p.outcome) (append-nil p.ls)
      (p.refused [] [] (inr (few b (ap (λ l. count_by begins_section l) (append-nil p.ls) ∙ p.sections), refl))))
      (ends_at first all p.done p.ls p.parts));
  silent = tt;
}
  where
    few : (c : Bool) → count_by begins_section (p.ls ++ []) ≡ section_count c → count_by begins_section (p.ls ++ []) ≤ 1
    few true e = omega (arith, e)
    few false e = omega (arith, e)
