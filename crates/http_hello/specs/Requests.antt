-- What stands at the front of a buffer, by the grammar of the kit's `httparse`.
use Rattle.std.specs.Prelude.{◌≡◌, ℕ, ◌<◌, ◌≤◌, ◌⊎◌, Bool, true, List, ◌++◌, length, drop, map, if◌then◌else◌, codes, nat_eq, false, not, ◌||◌, ◌&&◌}
use Rattle.std.specs.List.{list_any}
use Rattle.std.specs.Char.{to_ascii_lowercase}
use Rattle.std.specs.Cmp.Lexicographic.{pointwise}
use Rattle.httparse.specs.Grammar.{RequestHead, ReadsRequest, HasNoRequest, MayBecomeRequest, print_request}
use Rattle.httparse.specs.Spans.{name_and_value}
use Rattle.http_hello.specs.declared.answer.Answer.{Answer}
use Rattle.http_hello.specs.declared.answer.Answer.TheVariants.{Page, NotFound, NotAllowed}
use Rattle.http_hello.specs.declared.request.Request.{Request}
use Rattle.http_hello.specs.declared.request.Front.{Front}
use Rattle.http_hello.specs.declared.request.Front.TheVariants.{Whole, Partial, Bad}

-- what a method and a target are answered
abbrev pub answer_to : (method target : List ℕ) → Answer
answer_to method target =
    if pointwise nat_eq method (codes "GET")
    then (if pointwise nat_eq target (codes "/") then Page else NotFound)
    else NotAllowed

-- a field's name is this word, in letters of any case
abbrev pub is_named : (name word : List ℕ) → Bool
is_named name word = pointwise nat_eq (map to_ascii_lowercase name) word

-- a field says that a body follows
abbrev pub has_body : List ℕ × List ℕ → Bool
has_body (name, value) =
    is_named name (codes "transfer-encoding")
    || (is_named name (codes "content-length") && not (pointwise nat_eq value (codes "0")))

-- a field says that a body follows, or something of the connection
abbrev pub may_close : List ℕ × List ℕ → Bool
may_close field = has_body field || is_named field.0 (codes "connection")

-- The connection is closed behind the answer if the request is of HTTP/1.0 or says that a body follows, which isn't read. It stays open if a
-- request of HTTP/1.1 has no field of those names. Which words of a field `Connection` close it isn't said.
pub record ClosesRightly (head : RequestHead) (closes : Bool) : Type 0 where
  pub at_old : head.minor ≡ 0 → closes ≡ true
  pub at_body : list_any has_body (map name_and_value head.fields) ≡ true → closes ≡ true
  pub otherwise : list_any may_close (map name_and_value head.fields) ≡ false → head.minor ≡ 1 → closes ≡ false

-- the buffer begins with this head, and the request says what it is answered
pub record IsRead (buffer : List ℕ) (request : Request) (head : RequestHead) : Type 0 where
  pub reads : ReadsRequest buffer head (drop request.len buffer)
  pub answer : request.answer ≡ answer_to head.method head.target
  pub closes : ClosesRightly head request.closes
  pub some : 0 < request.len
  pub within : request.len ≤ length buffer

-- whatever bytes follow, a head at the front is longer than 4,096 bytes, or has more than 64 fields
abbrev pub NeverFits : List ℕ → Type 0
NeverFits buffer =
    (more : List ℕ) (head : RequestHead) (rest : List ℕ) → ReadsRequest (buffer ++ more) head rest
    → (4096 < length (print_request head)) ⊎ (64 < length head.fields)

-- no whole head is there, more bytes can make one, and there are fewer than 4,096
pub record IsUnfinished (buffer : List ℕ) : Type 0 where
  pub none : HasNoRequest buffer
  pub may_become : MayBecomeRequest buffer
  pub few : length buffer < 4096

-- what is read at the front of a buffer
abbrev pub IsFront : List ℕ → Front → Type 0
IsFront buffer (Whole request) = (head : RequestHead) × IsRead buffer request head
IsFront buffer Partial = IsUnfinished buffer
IsFront buffer Bad = NeverFits buffer
