-- What a connection has received and answered.
use Rattle.std.specs.Prelude.{ℕ, Bool, true, false, List, [], ◌++◌}
use Rattle.httparse.specs.Grammar.{RequestHead, ReadsRequest}
use Rattle.http_hello.specs.declared.answer.Answer.TheVariants.{Bad, Unavailable}
use Rattle.http_hello.specs.declared.connection.Connection.{Connection}
use Rattle.http_hello.specs.Answers.{bytes_of}
use Rattle.http_hello.specs.Requests.{answer_to, ClosesRightly, NeverFits}

-- An exchange: all bytes that came, all bytes that they were answered, what of the first isn't read yet, and whether the connection is to be
-- closed. Each request is answered once, in order, and nothing is answered behind an answer that closes.
pub data Exchange : (input output rest : List ℕ) → (is_over : Bool) → Type 0 where
  -- nothing came yet
  begins : Exchange [] [] [] false
  -- one client too many
  turns_away : Exchange [] (bytes_of Unavailable true) [] true
  -- more bytes came
  more : (input output rest bytes : List ℕ) (is_over : Bool) → Exchange input output rest is_over
      → Exchange (input ++ bytes) output (rest ++ bytes) is_over
  -- the next request is answered
  answers : (input output rest later : List ℕ) (head : RequestHead) (closes : Bool) → Exchange input output rest false
      → ReadsRequest rest head later → ClosesRightly head closes
      → Exchange input (output ++ bytes_of (answer_to head.method head.target) closes) later closes
  -- no request within the limits can come
  refuses : (input output rest : List ℕ) → Exchange input output rest false → NeverFits rest
      → Exchange input (output ++ bytes_of Bad true) rest true

-- what is to be sent next
abbrev pub unsent_of : Connection → List ℕ
unsent_of connection = connection.unsent.items

-- what came and isn't read yet
abbrev pub unread_of : Connection → List ℕ
unread_of connection = connection.received.items

-- whether it is to be closed once all is sent
abbrev pub is_over : Connection → Bool
is_over connection = connection.is_closing

-- This came and that was sent: with what is unsent it is what was to be answered.
abbrev pub Exchanged : (input sent : List ℕ) → Connection → Type 0
Exchanged input sent connection =
    Exchange input (sent ++ unsent_of connection) (unread_of connection) (is_over connection)

-- from any exchange up to the old connection there is one up to the new one, with so many more bytes in and out
abbrev pub Exchanges : (bytes gone : List ℕ) (old new : Connection) → Type 0
Exchanges bytes gone old new =
    (input sent : List ℕ) → Exchanged input sent old → Exchanged (input ++ bytes) (sent ++ gone) new
