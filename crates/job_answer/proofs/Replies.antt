-- Labels and blocks that are right along a network's arcs are right along the job's.
use Rattle.std.proofs.Common.{◌≡◌, ◌≢◌, ◌↔◌, Bool, true, false, ℕ, List, [], ◌∷◌, ◌++◌, Option, Some, None, refl, sym, ap}
use Rattle.std.proofs.Common.{◌∙◌}
use Rattle.route_walks.specs.declared.graph.ArcRec.{ArcRec}
use Rattle.route_walks.specs.Walk.{HaveSameArcs}
use Rattle.route_walks.specs.Label.{LeastLabelsFollowTheArcs}
use Rattle.route_walks.specs.Operators.{seeds_from, seeds_all}
use Rattle.route_walks.proofs.Facts.{same_arcs-sym}
use Rattle.walk_report.specs.Parent.{HopsAndParentsFollowTheArcs}
use Rattle.dimacs_text.specs.Jobs.{Content, Question, absent, from_sources, of_pairs}
use Rattle.answer_lines.specs.Lines.{grown_text}
use Rattle.std.specs.Prelude.{Result, Ok, Err, IfErr, IsTrue, OnErr}
use Rattle.job_answer.specs.declared.fault.Fault.{Fault}
use Rattle.job_answer.specs.declared.fault.Fault.TheVariants.{Read, TooLong, Text, NoAsk, NoSources, Memory, Spawn, Write}
use Rattle.job_answer.specs.declared.question.asked.Answer.{Answer}
use Rattle.job_answer.specs.declared.question.asked.Answer.TheVariants.{Distances, Levels, Components}
use Rattle.job_answer.specs.declared.question.graphs.Graphs.{Graphs}
use Rattle.job_answer.specs.Bytes.{WritesPrefix}
use Rattle.job_answer.specs.Graphs.{AreGraphsFor, GrowAlike, growth_of}
use Rattle.job_answer.specs.Outcome.{IsReplyFault, IsUnasked, IsWritingFault, is_unasked}
use Rattle.job_answer.specs.AnswerText.{IsBlock, IsPairBlock, IsPairLabel, AreWalksFrom, AreBlocks, AreAskedBlocks}
use Rattle.job_answer.specs.AnswerText.{Growth, IsComponentsBlock, IsGrownBlock, IsGrownPair, IsGrownText}
use Rattle.job_answer.specs.AnswerText.{IsTextFor, arcs_for, growth_for}
use Rattle.job_answer.specs.declared.question.asked.Lines.{Lines}
use Rattle.job_answer.specs.declared.question.asked.Lines.TheVariants as lines
use Rattle.job_answer.specs.Within.{AreBlocksInShort, AreBlocksWithin, AreLinesBlocks, AreLinesPairs, HasNoSources}
use Rattle.job_answer.specs.Within.{IsAnswerTextBy, IsGrownLines, IsGrownLinesPair, IsLinesBlock, IsLinesPair, IsTextBy}
use Rattle.job_answer.specs.Within.{IsTextInShort}

module _ (law : LeastLabelsFollowTheArcs) (walked : HopsAndParentsFollowTheArcs) (n : ℕ) (one other : List ArcRec)
    (same : HaveSameArcs one other) where
  walks-over : (source : ℕ) (labels hops parents : List ℕ) → AreWalksFrom n one source labels hops parents
      → AreWalksFrom n other source labels hops parents
  walks-over source labels hops parents are =
      let over = walked n one other source labels hops parents same are.fewest are.before in
      record { least = law n one other (seeds_from source) labels same are.least; fewest = over.0; before = over.1 }

  -- a block along the same arcs is the same
  block-over : (walks : Bool) (source : ℕ) (text : List ℕ) → IsBlock walks n one source text
      → IsBlock walks n other source text
  block-over false source text block = record {
    labels = block.labels;
    least = law n one other (seeds_from source) block.labels same block.least;
    written = block.written;
  }
  block-over true source text block = record {
    labels = block.labels;
    hops = block.hops;
    parents = block.parents;
    walked = walks-over source block.labels block.hops block.parents block.walked;
    written = block.written;
  }

  -- so is a block by any lines
  lines-over : (by : Lines) (source : ℕ) (text : List ℕ) → IsLinesBlock by n one source text
      → IsLinesBlock by n other source text
  lines-over (lines.Each walks) source text block = block-over walks source text block
  lines-over (lines.Within false bound) source text block = record {
    labels = block.labels;
    least = law n one other (seeds_from source) block.labels same block.least;
    written = block.written;
  }
  lines-over (lines.Within true bound) source text block = record {
    labels = block.labels;
    hops = block.hops;
    parents = block.parents;
    walked = walks-over source block.labels block.hops block.parents block.walked;
    written = block.written;
  }
  lines-over (lines.Raw pairs) source text block = record {
    labels = block.labels;
    least = law n one other (seeds_from source) block.labels same block.least;
    written = block.written;
  }
  lines-over lines.Totals source text block = record {
    labels = block.labels;
    least = law n one other (seeds_from source) block.labels same block.least;
    written = block.written;
  }

  pair-label-over : (raw : Bool) (pair : ℕ × ℕ) (text : List ℕ) → IsPairLabel raw n one pair text
      → IsPairLabel raw n other pair text
  pair-label-over raw pair text block = record {
    labels = block.labels;
    least = law n one other (seeds_from pair.0) block.labels same block.least;
    written = block.written;
  }

  pair-over : (walks : Bool) (pair : ℕ × ℕ) (text : List ℕ) → IsPairBlock walks n one pair text
      → IsPairBlock walks n other pair text
  pair-over false pair text block = pair-label-over false pair text block
  pair-over true pair text block = record {
    labels = block.labels;
    hops = block.hops;
    parents = block.parents;
    walked = walks-over pair.0 block.labels block.hops block.parents block.walked;
    written = block.written;
  }

  lines-pair-over : (by : Lines) (pair : ℕ × ℕ) (text : List ℕ) → IsLinesPair by n one pair text
      → IsLinesPair by n other pair text
  lines-pair-over (lines.Each walks) pair text block = pair-over walks pair text block
  lines-pair-over (lines.Within walks bound) pair text block = pair-over walks pair text block
  lines-pair-over (lines.Raw pairs) pair text block = pair-label-over pairs pair text block
  lines-pair-over lines.Totals pair text block = pair-label-over false pair text block

components-over : LeastLabelsFollowTheArcs → (n : ℕ) (one other : List ArcRec) → HaveSameArcs one other
    → (text : List ℕ) → IsComponentsBlock n one text
    → IsComponentsBlock n other text
components-over law n one other same text block = record {
  labels = block.labels;
  least = law n one other (seeds_all n) block.labels same block.least;
  written = block.written;
}

blocks-over : {Query : Type 0} (IsOne IsOther : Query → List ℕ → Type 0)
    → ((query : Query) (text : List ℕ) → IsOne query text → IsOther query text)
    → (queries : List Query) (text : List ℕ) → AreBlocks IsOne queries text
    → AreBlocks IsOther queries text
blocks-over IsOne IsOther each [] text blocks = blocks
blocks-over IsOne IsOther each (query ∷ queries) text blocks = (
  blocks.0,
  blocks.1,
  each query blocks.0 blocks.2,
  blocks-over IsOne IsOther each queries blocks.1 blocks.3,
  blocks.4,
)

-- a text along the same arcs, growing alike, is the same
grown-over : (IsTextOf : List ArcRec → List ℕ → Type 0)
    → ((one other : List ArcRec) → HaveSameArcs one other → (text : List ℕ) → IsTextOf one text → IsTextOf other text)
    → (one other : List ArcRec) (first second : Option Growth) → HaveSameArcs one other → GrowAlike first second
    → (text : List ℕ) → IsGrownText IsTextOf one first text
    → IsGrownText IsTextOf other second text
grown-over IsTextOf each one other None None same alike text is = each one other same text is
grown-over IsTextOf each one other None (Some second) same alike text is = absurd alike
grown-over IsTextOf each one other (Some first) None same alike text is = absurd alike
grown-over IsTextOf each one other (Some first) (Some second) same alike text is = record {
  before = is.before;
  after = is.after;
  first = each one other same is.before is.first;
  second = each first.arcs second.arcs alike.1 is.after is.second;
  written = is.written ∙ ap (λ (k : ℕ). is.before ++ grown_text k ++ is.after) alike.0;
}

module _ (law : LeastLabelsFollowTheArcs) (walked : HopsAndParentsFollowTheArcs) (walks : Bool) (n : ℕ)
    (one other : List ArcRec) (first second : Option Growth) (same : HaveSameArcs one other)
    (alike : GrowAlike first second) where
  asked-over : (question : Question) (text : List ℕ) → AreAskedBlocks walks n one first question text
      → AreAskedBlocks walks n other second question text
  asked-over absent text blocks = blocks
  asked-over (from_sources sources) text blocks =
      blocks-over (IsGrownBlock walks n one first) (IsGrownBlock walks n other second)
      (λ source.
      grown-over (λ along. IsBlock walks n along source)
      (λ these those are. block-over law walked n these those are walks source) one other first second same alike)
      sources text blocks
  asked-over (of_pairs pairs) text blocks =
      blocks-over (IsGrownPair walks n one first) (IsGrownPair walks n other second)
      (λ pair.
      grown-over (λ along. IsPairBlock walks n along pair)
      (λ these those are. pair-over law walked n these those are walks pair) one other first second same alike)
      pairs text blocks

  text-over : (kind : Answer) (question : Question) (text : List ℕ) → IsTextFor kind walks n one first question text
      → IsTextFor kind walks n other second question text
  text-over Distances question text is = asked-over question text is
  text-over Levels question text is = asked-over question text is
  text-over Components question text is =
      grown-over (IsComponentsBlock n) (components-over law n) one other first second same alike text is

-- so is a text by other lines
module _ (law : LeastLabelsFollowTheArcs) (walked : HopsAndParentsFollowTheArcs) (n : ℕ) (one other : List ArcRec)
    (first second : Option Growth) (same : HaveSameArcs one other) (alike : GrowAlike first second) where
  sources-over : (by : Lines) (sources text : List ℕ) → AreLinesBlocks by n one first sources text
      → AreLinesBlocks by n other second sources text
  sources-over by =
      blocks-over (IsGrownLines by n one first) (IsGrownLines by n other second)
      (λ source.
      grown-over (λ along. IsLinesBlock by n along source)
      (λ these those are. lines-over law walked n these those are by source) one other first second same alike)

  within-over : (walks : Bool) (bound : ℕ) (question : Question) (text : List ℕ)
      → AreBlocksWithin walks bound n one first question text
      → AreBlocksWithin walks bound n other second question text
  within-over walks bound absent text blocks = blocks
  within-over walks bound (of_pairs pairs) text blocks = blocks
  within-over walks bound (from_sources sources) text blocks = sources-over (lines.Within walks bound) sources text blocks

  short-over : (by : Lines) (question : Question) (text : List ℕ) → AreBlocksInShort by n one first question text
      → AreBlocksInShort by n other second question text
  short-over by absent text blocks = blocks
  short-over by (from_sources sources) text blocks = sources-over by sources text blocks
  short-over by (of_pairs pairs) text blocks =
      blocks-over (IsGrownLinesPair by n one first) (IsGrownLinesPair by n other second)
      (λ pair.
      grown-over (λ along. IsLinesPair by n along pair)
      (λ these those are. lines-pair-over law walked n these those are by pair) one other first second same alike)
      pairs text blocks

  text-in-short-over : (kind : Answer) (by : Lines) (question : Question) (text : List ℕ)
      → IsTextInShort kind by n one first question text → IsTextInShort kind by n other second question text
  text-in-short-over Distances by question text is = short-over by question text is
  text-in-short-over Levels by question text is = short-over by question text is
  text-in-short-over Components by question text is =
      grown-over (IsComponentsBlock n) (components-over law n) one other first second same alike text is

  text-over-by : (kind : Answer) (by : Lines) (question : Question) (text : List ℕ)
      → IsTextBy kind by n one first question text → IsTextBy kind by n other second question text
  text-over-by kind (lines.Each walks) question text is =
      text-over law walked walks n one other first second same alike kind question text is
  text-over-by kind (lines.Raw pairs) question text is = text-in-short-over kind (lines.Raw pairs) question text is
  text-over-by kind lines.Totals question text is = text-in-short-over kind lines.Totals question text is
  text-over-by Distances (lines.Within walks bound) question text is = within-over walks bound question text is
  text-over-by Levels (lines.Within walks bound) question text is = within-over walks bound question text is
  text-over-by Components (lines.Within walks bound) question text is =
      grown-over (IsComponentsBlock n) (components-over law n) one other first second same alike text is

alike-sym : (first second : Option Growth) → GrowAlike first second → GrowAlike second first
alike-sym None None alike = alike
alike-sym None (Some second) alike = absurd alike
alike-sym (Some first) None alike = absurd alike
alike-sym (Some first) (Some second) alike = (sym alike.0, same_arcs-sym first.arcs second.arcs alike.1)

-- the text along the arcs of the networks is the job's answer
module _ (law : LeastLabelsFollowTheArcs) (walked : HopsAndParentsFollowTheArcs) (kind : Answer) (by : Lines)
    (job : Content) (graphs : Graphs) (question : Question)
    (are : AreGraphsFor kind job.n job.arcs (growth_for kind job) graphs) (asked : question ≡ job.question) where
  pub text_answered : (text : List ℕ)
      → (IsTextBy kind by graphs.network.n graphs.network.arcs (growth_of graphs.grown) question text)
      ↔ (IsAnswerTextBy kind by job text)
  text_answered text =
      rw (are.vertices, asked) (
        text-over-by law walked job.n graphs.network.arcs (arcs_for kind job.arcs) (growth_of graphs.grown)
            (growth_for kind job) are.along are.alike kind by job.question text,
        text-over-by law walked job.n (arcs_for kind job.arcs) graphs.network.arcs (growth_for kind job)
            (growth_of graphs.grown) (same_arcs-sym graphs.network.arcs (arcs_for kind job.arcs) are.along)
            (alike-sym (growth_of graphs.grown) (growth_for kind job) are.alike) kind by job.question text,
      )

  pub text_begun : (before after : Option (List ℕ))
      → WritesPrefix (IsTextBy kind by graphs.network.n graphs.network.arcs (growth_of graphs.grown) question) before
      after
      → WritesPrefix (IsAnswerTextBy kind by job) before after
  text_begun before after cut = record {
    given = cut.given;
    is_prefix = λ text answered. cut.is_prefix text ((text_answered text).1 answered);
    appended = cut.appended;
  }

-- the blocks of the sources are the text of what is asked, but for components
pub sources-text : (kind : Answer) (by : Lines) (n : ℕ) (arcs : List ArcRec) (growth : Option Growth)
    (sources text : List ℕ) → kind ≢ Components
    → AreLinesBlocks by n arcs growth sources text ↔ IsTextBy kind by n arcs growth (from_sources sources) text
sources-text Distances (lines.Each walks) n arcs growth sources text other = (λ is. is, λ is. is)
sources-text Distances (lines.Within walks bound) n arcs growth sources text other = (λ is. is, λ is. is)
sources-text Distances (lines.Raw pairs) n arcs growth sources text other = (λ is. is, λ is. is)
sources-text Distances lines.Totals n arcs growth sources text other = (λ is. is, λ is. is)
sources-text Levels (lines.Each walks) n arcs growth sources text other = (λ is. is, λ is. is)
sources-text Levels (lines.Within walks bound) n arcs growth sources text other = (λ is. is, λ is. is)
sources-text Levels (lines.Raw pairs) n arcs growth sources text other = (λ is. is, λ is. is)
sources-text Levels lines.Totals n arcs growth sources text other = (λ is. is, λ is. is)
sources-text Components by n arcs growth sources text other = absurd (other refl)

-- so are the texts of the pairs, where no bound asks for sources
pub pairs-text : (kind : Answer) (by : Lines) (n : ℕ) (arcs : List ArcRec) (growth : Option Growth)
    (pairs : List (ℕ × ℕ)) (text : List ℕ) → kind ≢ Components → ¬ (HasNoSources kind by (of_pairs pairs))
    → AreLinesPairs by n arcs growth pairs text ↔ IsTextBy kind by n arcs growth (of_pairs pairs) text
pairs-text Distances (lines.Each walks) n arcs growth pairs text other sources = (λ is. is, λ is. is)
pairs-text Distances (lines.Within walks bound) n arcs growth pairs text other sources = absurd (sources tt)
pairs-text Distances (lines.Raw raw) n arcs growth pairs text other sources = (λ is. is, λ is. is)
pairs-text Distances lines.Totals n arcs growth pairs text other sources = (λ is. is, λ is. is)
pairs-text Levels (lines.Each walks) n arcs growth pairs text other sources = (λ is. is, λ is. is)
pairs-text Levels (lines.Within walks bound) n arcs growth pairs text other sources = absurd (sources tt)
pairs-text Levels (lines.Raw raw) n arcs growth pairs text other sources = (λ is. is, λ is. is)
pairs-text Levels lines.Totals n arcs growth pairs text other sources = (λ is. is, λ is. is)
pairs-text Components by n arcs growth pairs text other sources = absurd (other refl)

-- the test says whether a job is asked
pub asked-if : (kind : Answer) (job : Content) → is_unasked kind job.question ≡ false → ¬ (IsUnasked kind job)
asked-if Distances job asked unasked =
    let clash : false ≡ true = sym asked ∙ ap (is_unasked Distances) unasked.unasked in cc
asked-if Levels job asked unasked =
    let clash : false ≡ true = sym asked ∙ ap (is_unasked Levels) unasked.unasked in cc
asked-if Components job asked unasked = unasked.needed refl

-- and so another test of what it tells
pub untold-if : (test : Bool) (P : Type 0) → IsTrue test ↔ P → test ≡ false → ¬ P
untold-if test P says is so = let clash : false ≡ true = sym is ∙ says.1 so in cc

-- what is said of a fault while blocks are written is said of a fault of the reply
pub reply-fault : (kind : Answer) (by : Lines) (job : Content) (before after : Option (List ℕ)) (fault : Fault)
    → ¬ (IsUnasked kind job) → ¬ (HasNoSources kind by job.question) → IsWritingFault fault
    → WritesPrefix (IsAnswerTextBy kind by job) before after
    → IsReplyFault kind by job before after fault
reply-fault kind by job before after Read asked sources never cut = absurd never
reply-fault kind by job before after TooLong asked sources never cut = absurd never
reply-fault kind by job before after (Text line what) asked sources never cut = absurd never
reply-fault kind by job before after NoAsk asked sources never cut = absurd never
reply-fault kind by job before after NoSources asked sources never cut = absurd never
reply-fault kind by job before after Memory asked sources writing cut =
    record { asked = asked; has_sources = sources; cut = cut }
reply-fault kind by job before after Spawn asked sources writing cut =
    record { asked = asked; has_sources = sources; cut = cut }
reply-fault kind by job before after Write asked sources writing cut =
    record { asked = asked; has_sources = sources; cut = cut }

pub reply-says : {T : Type 0} (kind : Answer) (by : Lines) (job : Content) (before after : Option (List ℕ))
    (r : Result T Fault)
    → ¬ (IsUnasked kind job) → ¬ (HasNoSources kind by job.question) → IfErr r IsWritingFault
    → OnErr r (WritesPrefix (IsAnswerTextBy kind by job) before after)
    → IfErr r (IsReplyFault kind by job before after)
reply-says kind by job before after (Ok x) asked sources kinds cut = tt
reply-says kind by job before after (Err fault) asked sources kinds cut =
    reply-fault kind by job before after fault asked sources kinds cut
