use Rattle.request_reader.proofs.Sections.{each_has_its_line}
use Rattle.request_reader.proofs.laws.each_request_has_its_section_line.Goals as goal

pub returns : goal.returns
returns c = each_has_its_line
