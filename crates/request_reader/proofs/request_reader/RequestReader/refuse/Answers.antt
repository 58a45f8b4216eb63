use Rattle.request_reader.proofs.request_reader.RequestReader.refuse.Goals as goal

pub returns-clause-refused : goal.returns-clause-refused
returns-clause-refused c first all outcomes p = p
