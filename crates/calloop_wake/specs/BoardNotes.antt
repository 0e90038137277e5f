-- A watch's notes of what was done to its board.
use Rattle.calloop_wake.specs.Boards.{any_marked, keys_within}
use Rattle.calloop_wake.specs.declared.notes.Note.{Note}
use Rattle.calloop_wake.specs.declared.notes.Note.TheVariants.{Counted, Looked, Unposted, Marked}
use Rattle.calloop_wake.specs.declared.notes.LentBoardNote.{LentBoardNote}
use Rattle.calloop_wake.specs.declared.notes.LentBoardNote.TheVariants.{Counted as LentCounted, Looked as LentLooked, Unposted as LentUnposted, Marked as LentMarked}

-- the note that a lent one stands for, given the board at that time
abbrev pub note_of : LentBoardNote → Note
note_of (LentCounted number) = Counted number
note_of (LentLooked board) = Looked (any_marked board.now.places)
note_of (LentUnposted room board) = Unposted room (keys_within room board.now.places)
note_of (LentMarked marked) = Marked marked.now
