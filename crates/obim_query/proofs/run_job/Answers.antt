use Rattle.std.proofs.Common.{rules, ◌≡◌, ℕ, List, Option, Err}
use Rattle.job_answer.specs.declared.question.asked.Asked.{Asked}
use Rattle.job_answer.specs.declared.fault.Fault.{Fault}
use Rattle.job_answer.specs.Choices.{status_of}
use Rattle.job_answer.specs.Outcome.{IsReply}
use Rattle.obim_query.specs.Replied.{HasReplied}
use Rattle.obim_query.proofs.run_job.Goals as goal

-- what a reply says, by the status of its fault
replied_by : (asked : Asked) (taken_from taken_to given_from given_to : Option (List ℕ)) (fault : Fault) (status : ℕ)
    → IsReply asked.limit asked.answer asked.lines taken_from taken_to given_from given_to (Err fault)
    → status ≡ status_of fault
    → HasReplied asked taken_from taken_to given_from given_to status
replied_by asked taken_from taken_to given_from given_to fault status reply is = search rules

pub returns-in-Err : goal.returns-in-Err
returns-in-Err g c = replied_by _ _ _ _ _ c.in-Err.fault _ c.in-Err.ensures c.status.ensures

pub returns-in-Err-2 : goal.returns-in-Err-2
returns-in-Err-2 g c = replied_by _ _ _ _ _ c.in-Err-2.fault _ c.in-Err-2.ensures c.print_whole_fault.ensures
