-- The bytes of answers.
use Rattle.std.specs.Prelude.{ℕ, Bool, List, [], ◌++◌, if◌then◌else◌, codes}
use Rattle.http_hello.specs.declared.answer.Answer.{Answer}
use Rattle.http_hello.specs.declared.answer.Answer.TheVariants.{Page, NotFound, NotAllowed, Bad, Unavailable}

-- the status line and the fields
abbrev pub head_of : Answer → List ℕ
head_of Page = codes "HTTP/1.1 200 OK\r\nContent-Type: text/plain\r\nContent-Length: 13\r\n"
head_of NotFound = codes "HTTP/1.1 404 Not Found\r\nContent-Length: 0\r\n"
head_of NotAllowed = codes "HTTP/1.1 405 Method Not Allowed\r\nAllow: GET\r\nContent-Length: 0\r\n"
head_of Bad = codes "HTTP/1.1 400 Bad Request\r\nContent-Length: 0\r\n"
head_of Unavailable = codes "HTTP/1.1 503 Service Unavailable\r\nContent-Length: 0\r\n"

-- only the page has a body
abbrev pub body_of : Answer → List ℕ
body_of Page = codes "Hello, world\n"
body_of NotFound = []
body_of NotAllowed = []
body_of Bad = []
body_of Unavailable = []

-- an answer that closes says so
abbrev pub closing_of : Bool → List ℕ
closing_of closes = if closes then codes "Connection: close\r\n" else []

-- the whole answer
abbrev pub bytes_of : Answer → Bool → List ℕ
bytes_of answer closes = head_of answer ++ closing_of closes ++ codes "\r\n" ++ body_of answer
