-- How a text is read piece by piece: one is fed to the reader of the job while the next is taken.
use Rattle.std.specs.Prelude.{◌≡◌, ◌≤◌, ◌<◌, ℕ, Bool, true, false, List, length, Option}
use Rattle.std.specs.Io.KnownBytes.{Consumes, IsAtEnd}
use Rattle.dimacs_text.specs.declared.reader.JobReader.{JobReader}
use Rattle.dimacs_text.specs.Reading.{Reads}
use Rattle.job_reader.specs.declared.fault.ReadFault.{ReadFault}
use Rattle.job_reader.specs.Request.{IsOfSystem}
use Rattle.job_reader.specs.Taken.{TakesAtMost}

-- a piece was taken, of at most `limit` bytes; there are some, if not ended
pub record Fills (limit : ℕ) (piece : List ℕ) (before after : Option (List ℕ)) (ended : Bool) : Type 0 where
  pub taken : Consumes before after piece
  pub few : length piece ≤ limit
  pub end : ended ≡ true → IsAtEnd after
  pub more : ended ≡ false → 0 < limit → 0 < length piece

-- a piece was fed, and the next was taken
pub record StepsOn (limit : ℕ) (old new : JobReader) (fed next : List ℕ) (before after : Option (List ℕ))
    (ended : Bool) : Type 0 where
  pub reads : Reads old new fed
  pub fills : Fills limit next before after ended

-- memory was refused or the reader failed, when at most `most` bytes were taken
pub record StopsShort (most : ℕ) (before after : Option (List ℕ)) (kind : ReadFault) : Type 0 where
  pub taken : TakesAtMost most before after
  pub only : IsOfSystem kind

-- so many bytes were taken, at most `limit`, and the reader of the job has read them
pub record Feeds (limit count : ℕ) (old new : JobReader) (before after : Option (List ℕ)) : Type 0 where
  pub text : List ℕ
  pub taken : Consumes before after text
  pub reads : Reads old new text
  pub size : length text ≡ count
  pub few : count ≤ limit
