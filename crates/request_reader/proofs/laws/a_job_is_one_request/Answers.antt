use Rattle.request_reader.proofs.JobRequest.{job_request}
use Rattle.request_reader.proofs.laws.a_job_is_one_request.Goals as goal

pub returns : goal.returns
returns c = job_request
