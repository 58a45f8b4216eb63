-- The head that the fields after 'p aux sp' name, and that of several lines.
use Rattle.std.proofs.Common.{◌≡◌, ◌∙◌, ◌<◌, ℕ, Bool, true, false, cond, List, [], ◌∷◌, ◌++◌, Option, Some, None, IfSome}
use Rattle.std.proofs.Common.{refl, sym, ap}
use Rattle.std.specs.Option.{option_or}
use Rattle.route_walks.specs.declared.graph.TheConstants.{INF}
use Rattle.dimacs_text.specs.declared.head.HeadForm.{HeadForm}
use Rattle.dimacs_text.specs.declared.head.HeadForm.TheVariants.{Sources, Within, Pairs, Walk, Added, Removed, Replaced, Listed}
use Rattle.dimacs_text.specs.declared.head.HeadKind.{HeadKind}
use Rattle.dimacs_text.specs.declared.head.HeadLines.{HeadLines}
use Rattle.dimacs_text.specs.declared.head.SectionHead.{SectionHead}
use Rattle.dimacs_text.specs.Heads.{fits, form_word, head_after, head_by, head_if, head_in, head_with, kind_word}
use Rattle.dimacs_text.specs.Heads.{lines_word, word_in}
use Rattle.dimacs_text.specs.Heads.{after_front, begins_section}
use Rattle.dimacs_text.specs.Forms.{numbers_within}
use Rattle.dimacs_text.specs.AfterGraph.{bound_of, head_among, head_of, head_or_plain, with_bound, within_limits}
use Rattle.dimacs_text.specs.AfterGraph.{IsHeadWithin}
use Rattle.dimacs_text.proofs.AfterGraphLemmas.{others_no_head}
use Rattle.dimacs_text.proofs.WithinLemmas.{bound_within}

-- word by word, up to the form
pub words_read : (fs gs hs : List (List ℕ)) (kind : Option HeadKind) (lines : Option HeadLines)
    → (kind, gs) ≡ word_in kind_word fs → (lines, hs) ≡ word_in lines_word gs
    → head_in fs ≡ head_with kind lines (word_in form_word hs).0 (word_in form_word hs).1
unfolding head_in
words_read fs gs hs kind lines a b = ap (λ x. head_by x) (sym a) ∙ ap (λ x. head_after kind x) (sym b)

pub no_form : (fs gs hs : List (List ℕ)) (kind : Option HeadKind) (lines : Option HeadLines)
    → (kind, gs) ≡ word_in kind_word fs → (lines, hs) ≡ word_in lines_word gs → (word_in form_word hs).0 ≡ None
    → head_in fs ≡ None
no_form fs gs hs kind lines a b none =
    words_read fs gs hs kind lines a b ∙ ap (λ x. head_with kind lines x (word_in form_word hs).1) none

pub by_fit : (fs gs hs ks : List (List ℕ)) (kind : Option HeadKind) (lines : Option HeadLines) (form : HeadForm) (fit : Bool)
    → (kind, gs) ≡ word_in kind_word fs → (lines, hs) ≡ word_in lines_word gs
    → word_in form_word hs ≡ (Some form, ks) → fits kind lines form ≡ fit
    → head_in fs ≡ head_if fit (record { kind = kind; lines = lines; form = form; bound = None }) ks
by_fit fs gs hs ks kind lines form fit a b is fitting =
    words_read fs gs hs kind lines a b
    ∙ ap (λ (x : Option HeadForm × List (List ℕ)). head_with kind lines x.0 x.1) is
    ∙ ap (λ x. head_if x (record { kind = kind; lines = lines; form = form; bound = None }) ks) fitting

-- ---- its bound is a cost

form_bound : (form : HeadForm) (fs : List (List ℕ)) → IfSome (bound_of form fs) (λ bound. bound < INF)
form_bound Within fs = bound_within fs (numbers_within within_limits fs) refl
form_bound Sources fs = tt
form_bound Pairs fs = tt
form_bound Walk fs = tt
form_bound Added fs = tt
form_bound Removed fs = tt
form_bound Replaced fs = tt
form_bound Listed fs = tt

line_within : (line : List ℕ) → IfSome (head_of line) IsHeadWithin
unfolding head_of
line_within line = by_line (begins_section line) (head_in (after_front line))
  where
    by_line : (b : Bool) (head : Option (SectionHead × List (List ℕ))) → IfSome (cond b (with_bound head) None) IsHeadWithin
    by_line true (Some head) = form_bound head.0.form head.1
    by_line true None = tt
    by_line false head = tt

first_within : (a b : Option SectionHead) → IfSome a IsHeadWithin → IfSome b IsHeadWithin → IfSome (option_or a b) IsHeadWithin
first_within None b within other = other
first_within (Some head) b within other = within

among_within : (ls : List (List ℕ)) → IfSome (head_among ls) IsHeadWithin
among_within [] = tt
among_within (l ∷ ls) = first_within (head_of l) (head_among ls) (line_within l) (among_within ls)

-- whatever lines they are
pub heads_within : (ls : List (List ℕ)) → IsHeadWithin (head_or_plain (head_among ls))
heads_within ls = by_head (head_among ls) (among_within ls)
  where
    by_head : (head : Option SectionHead) → IfSome head IsHeadWithin → IsHeadWithin (head_or_plain head)
    by_head None within = tt
    by_head (Some head) within = within

-- ---- one line more

pub head_more : (ls : List (List ℕ)) (line : List ℕ) (old new : Option SectionHead)
    → old ≡ head_among ls → new ≡ option_or old (head_of line)
    → new ≡ head_among (ls ++ line ∷ [])
head_more ls line old new before is = is ∙ ap (λ x. option_or x (head_of line)) before ∙ by_lines ls
  where
    last : (x : Option SectionHead) → x ≡ option_or x None
    last None = refl
    last (Some head) = refl

    step : (a b c d : Option SectionHead) → option_or b c ≡ d → option_or (option_or a b) c ≡ option_or a d
    step None b c d e = e
    step (Some head) b c d e = refl

    by_lines : (us : List (List ℕ)) → option_or (head_among us) (head_of line) ≡ head_among (us ++ line ∷ [])
    by_lines [] = last (head_of line)
    by_lines (u ∷ us) = step (head_of u) (head_among us) (head_of line) (head_among (us ++ line ∷ [])) (by_lines us)

-- a line that is no section line changes no head
pub head_kept : (ls : List (List ℕ)) (line : List ℕ) (head : Option SectionHead)
    → head ≡ head_among ls → begins_section line ≡ false
    → head ≡ head_among (ls ++ line ∷ [])
head_kept ls line head before none =
    head_more ls line head head before (by_head head ∙ ap (λ x. option_or head x) (sym (others_no_head line none)))
  where
    by_head : (x : Option SectionHead) → x ≡ option_or x None
    by_head None = refl
    by_head (Some head) = refl
