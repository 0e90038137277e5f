-- Steps of a connection make exchanges.
use Rattle.std.proofs.Common.{◌≡◌, ℕ, Bool, true, false, List, [], ◌++◌, drop, sym, subst, append_assoc}
use Rattle.std.proofs.lemmas.List.{append-nil}
use Rattle.httparse.specs.Grammar.{RequestHead}
use Rattle.http_hello.specs.declared.answer.Answer.TheVariants.{Bad}
use Rattle.http_hello.specs.declared.request.Request.{Request}
use Rattle.http_hello.specs.declared.connection.Connection.{Connection}
use Rattle.http_hello.specs.Answers.{bytes_of}
use Rattle.http_hello.specs.Requests.{IsRead, NeverFits}
use Rattle.http_hello.specs.Exchanges.{Exchange, more, answers, refuses, Exchanges, unsent_of, unread_of}

-- nothing more came, and what was answered is unsent
pub unsent_more : (input sent unsent bytes rest : List ℕ) (is_over : Bool)
    → Exchange input ((sent ++ unsent) ++ bytes) rest is_over
    → Exchange (input ++ []) ((sent ++ []) ++ (unsent ++ bytes)) rest is_over
unsent_more input sent unsent bytes rest is_over x =
    rw (append-nil input) (rw (append-nil sent) (rw (sym (append_assoc sent unsent bytes)) x))

-- more bytes came
pub comes_more : (input sent unsent unread bytes unread' : List ℕ) (is_over : Bool)
    → unread' ≡ unread ++ bytes → Exchange input (sent ++ unsent) unread is_over
    → Exchange (input ++ bytes) ((sent ++ []) ++ unsent) unread' is_over
comes_more input sent unsent unread bytes unread' is_over grows x =
    rw grows (rw (append-nil sent) (more input (sent ++ unsent) unread bytes is_over x))

-- a whole request is answered
answered : (input sent unsent unread unsent' unread' : List ℕ) (over over' : Bool) (request : Request) (head : RequestHead)
    → over ≡ false → IsRead unread request head → unsent' ≡ unsent ++ bytes_of request.answer request.closes
    → unread' ≡ drop request.len unread → over' ≡ request.closes → Exchange input (sent ++ unsent) unread over
    → Exchange (input ++ []) ((sent ++ []) ++ unsent') unread' over'
answered input sent unsent unread unsent' unread' over over' request head opened read grows shrinks closes x =
    let before : Exchange input (sent ++ unsent) unread false = rw (sym opened) x in
    rw grows (rw shrinks (rw closes (rw read.answer
    (unsent_more input sent unsent _ _ request.closes
    (answers input (sent ++ unsent) unread _ head request.closes before read.reads read.closes)))))

-- bytes that can't become a request are refused
refused : (input sent unsent unread unsent' : List ℕ) (over over' : Bool)
    → over ≡ false → NeverFits unread → unsent' ≡ unsent ++ bytes_of Bad true → over' ≡ true
    → Exchange input (sent ++ unsent) unread over → Exchange (input ++ []) ((sent ++ []) ++ unsent') unread over'
refused input sent unsent unread unsent' over over' opened never grows closes x =
    let before : Exchange input (sent ++ unsent) unread false = rw (sym opened) x in
    rw grows (rw closes
    (unsent_more input sent unsent _ unread true (refuses input (sent ++ unsent) unread before never)))

-- a connection that answers a request
pub answers_next : (old new : Connection) (request : Request) (head : RequestHead)
    → old.is_closing ≡ false → IsRead (unread_of old) request head
    → unsent_of new ≡ unsent_of old ++ bytes_of request.answer request.closes
    → unread_of new ≡ drop request.len (unread_of old) → new.is_closing ≡ request.closes → Exchanges [] [] old new
answers_next old new request head opened read grows shrinks closes = λ input sent x.
    answered input sent (unsent_of old) (unread_of old) (unsent_of new) (unread_of new) old.is_closing new.is_closing
    request head opened read grows shrinks closes x

-- a connection that refuses what is left
pub refuses_rest : (old new : Connection)
    → old.is_closing ≡ false → NeverFits (unread_of old) → unsent_of new ≡ unsent_of old ++ bytes_of Bad true
    → unread_of new ≡ unread_of old → new.is_closing ≡ true → Exchanges [] [] old new
refuses_rest old new opened never grows stays closes = λ input sent x.
    let after = refused input sent (unsent_of old) (unread_of old) (unsent_of new) old.is_closing new.is_closing
    opened never grows closes x in
    subst (λ unread. Exchange (input ++ []) ((sent ++ []) ++ unsent_of new) unread new.is_closing) (sym stays) after

-- one step after another
pub Exchanges-then : (bytes : List ℕ) (first second third : Connection)
    → Exchanges bytes [] first second → Exchanges [] [] second third → Exchanges bytes [] first third
Exchanges-then bytes first second third earlier later = λ input sent x.
    let far = later (input ++ bytes) (sent ++ []) (earlier input sent x) in
    rw (sym (append-nil (input ++ bytes))) (rw (sym (append-nil (sent ++ []))) far)
