-- The lines of a job after its graph are one request.
use Rattle.std.proofs.Common.{◌≡◌, ℕ, ◌+◌, true, List, [], ◌∷◌, ◌++◌, length, Option, None, Some, IfSome, refl, sym, ◌∙◌, append_assoc}
use Rattle.route_walks.specs.declared.graph.TheConstants.{MAX_VERTICES}
use Rattle.dimacs_text.specs.declared.head.SectionHead.{SectionHead}
use Rattle.dimacs_text.specs.Lines.{lines}
use Rattle.dimacs_text.specs.Forms.{readings}
use Rattle.dimacs_text.specs.Jobs.{Content, IsJobText}
use Rattle.dimacs_text.specs.AfterGraph.{asked_of, graph_of, has_question, head_among, head_or_plain, IsJobAmong, IsPlain}
use Rattle.dimacs_text.proofs.Facts.{one_request, IsOneRequest}
use Rattle.request_reader.specs.Requests.{told, whole, AreRequests}

plain_head : (head : Option SectionHead) → IfSome head IsPlain → IsPlain (head_or_plain head)
plain_head None plain = (refl, refl, refl)
plain_head (Some head) plain = plain

told_once : (n first : ℕ) (ls : List (List ℕ)) (job : Content)
    → (p : IsOneRequest n ls job)
    → AreRequests n first ls
    (whole (told (first + length p.body)) job (head_or_plain (head_among (p.body ++ p.last ∷ []))) ∷ [])
told_once n first ls job p = record {
  next = first + length (p.body ++ p.last ∷ []);
  end = p.silent;
  requests = (
    p.body ++ p.last ∷ [],
    p.silent,
    p.parts ∙ sym (append_assoc p.body (p.last ∷ []) p.silent),
    record {
      front = p.body;
      last = p.last;
      parts = refl;
      number = refl;
      unanswered = p.first;
      is_whole = p.is_whole;
      head_is = refl;
    },
    (refl, refl),
  );
  silent = p.says_nothing;
}

pub job_request : (text : List ℕ) (job : Content)
    → IsJobText text job → job.added ≡ None → has_question job.question ≡ true
    → (graph : List (List ℕ))
    × (ls : List (List ℕ))
    × (lines text ≡ graph ++ ls)
    × IsJobAmong (readings MAX_VERTICES graph) (graph_of job)
    × ((first : ℕ)
    → (line : ℕ)
    × (head : SectionHead)
    × IsPlain head
    × AreRequests job.n first ls (whole line (asked_of job) head ∷ []))
job_request text job is none asked =
    let one = one_request text job is none asked in
    let head = head_among (one.4.body ++ one.4.last ∷ []) in (
      one.0,
      one.1,
      one.2,
      one.3,
      λ first. (
        told (first + length one.4.body),
        head_or_plain head,
        plain_head head one.4.head,
        told_once job.n first one.1 (asked_of job) one.4,
      ),
    )
