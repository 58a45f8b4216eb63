-- The networks of an answer may be shared by threads, and so may what tasks are.
use denote.Param.Send.{IsSync}
use Rattle.least_costs.proofs.Facts.{network_sync, parts_sync}
use Rattle.dimacs_text.specs.contracts.job.Ask as ask
use Rattle.job_answer.specs.contracts.question.asked.Lines as lines
use Rattle.job_answer.specs.contracts.question.graphs.Graphs as graphs
use Rattle.job_answer.specs.contracts.solving.team_watch.SolveCount as count

pub graphs_sync : IsSync graphs.the_row
graphs_sync = search (network_sync, parts_sync) depth 14

pub ask_sync : IsSync ask.the_row
ask_sync = search parts_sync depth 14

pub lines_sync : IsSync lines.the_row
lines_sync = search parts_sync depth 12

pub count_sync : IsSync count.the_row
count_sync = search parts_sync depth 12
