-- One request to an engine and its answer over a connection: HTTP/1.1 (RFC 9112), by the grammar of the kit's http1.
use Rattle.std.specs.Prelude.{◌≡◌, ℕ, ◌≤◌, List, [], ◌++◌, drop, length, codes}
use Rattle.http1.specs.declared.client.Client.{Client}
use Rattle.http1.specs.declared.conn.Limits.{Limits}
use Rattle.http1.specs.declared.conn.Reading.TheVariants as Reads
use Rattle.http1.specs.declared.conn.Writing.TheVariants as Writes
use Rattle.http1.specs.declared.decode.Decoder.{Decoder}
use Rattle.http1.specs.declared.framing.Framing.{Framing}
use Rattle.http1.specs.declared.framing.MethodKind.TheVariants.{Other}
use Rattle.http1.specs.Body.{body_of}
use Rattle.http1.specs.Decoder.{Completes, decoder_for}
use Rattle.http1.specs.Message.{AcceptsResponse, Request, Response, ReadsRequestMessage, ReadsResponseMessage}
use Rattle.httparse.specs.Grammar.{Field, ResponseHead, status_code}
use Rattle.nmvs_etcd.specs.declared.http.Procedure.{Procedure}
use Rattle.nmvs_etcd.specs.declared.http.Procedure.TheVariants.{Transaction, Range}

-- the most bytes of a head, of the extensions of chunks, and of trailers
abbrev pub limits : Limits
limits = record { max_head_len = 16384; max_extensions_len = 16384; max_trailers_len = 16384 }

-- the path of a procedure (etcd 3.4, rpc.proto: KV.Txn, KV.Range)
abbrev pub path : Procedure → List ℕ
path Transaction = codes "/v3/kv/txn"
path Range = codes "/v3/kv/range"

-- a text is exactly one request, which posts this body, for any reader that has room for it
pub record IsRequest (procedure : Procedure) (body text : List ℕ) : Type 0 where
  pub message : Request
  pub reads : (any : Limits) → length text ≤ any.max_head_len → 2 ≤ any.max_trailers_len → ReadsRequestMessage any text message []
  pub method : message.head.method ≡ codes "POST"
  pub target : message.head.target ≡ path procedure
  pub content : message.body.bytes ≡ body

-- a text is exactly one answer, with this status and this body. It is the first answer on the connection whatever comes after it, so
-- its end is its own and not that of the connection.
pub record IsAnswer (text : List ℕ) (status : ℕ) (body : List ℕ) : Type 0 where
  pub message : Response
  pub reads : (more : List ℕ) → ReadsResponseMessage limits Other (text ++ more) message more
  pub code : status_code message.head ≡ status
  pub content : message.body.bytes ≡ body

-- an answer is read in one way, and no part of it that begins it is an answer
abbrev pub AnswersAgree : Type 0
AnswersAgree =
    (text more : List ℕ) (status again : ℕ) (body other : List ℕ) → IsAnswer (text ++ more) status body → IsAnswer text again other
    → (more ≡ []) × (again ≡ status) × (other ≡ body)

-- a connection, with the bytes that it sent and heard before and after, carried exactly one request and one whole answer
pub record IsExchanged (procedure : Procedure) (body : List ℕ) (status : ℕ) (reply : List ℕ) (sent heard sent' heard' : List ℕ) : Type 0 where
  pub request : List ℕ
  pub answer : List ℕ
  pub went : sent' ≡ sent ++ request
  pub came : heard' ≡ heard ++ answer
  pub asks : IsRequest procedure body request
  pub answers : IsAnswer answer status reply

-- ---- steps of an exchange

-- a client has written its request, and waits for the answer
pub record AwaitsAnswer (c : Client) : Type 0 where
  pub limits : c.limits ≡ limits
  pub method : c.method ≡ Other
  pub reading : c.reading ≡ Reads.Head
  pub writing : c.writing ≡ Writes.Done

-- a connection carried exactly one request
pub record IsSent (procedure : Procedure) (body : List ℕ) (c : Client) (sent heard sent' heard' : List ℕ) : Type 0 where
  pub request : List ℕ
  pub went : sent' ≡ sent ++ request
  pub quiet : heard' ≡ heard
  pub asks : IsRequest procedure body request
  pub awaits : AwaitsAnswer c

-- one whole answer came
pub record Comes (status : ℕ) (body heard heard' : List ℕ) : Type 0 where
  pub answer : List ℕ
  pub came : heard' ≡ heard ++ answer
  pub answers : IsAnswer answer status body

-- the bytes that came were added to a text
pub record ComesAfter (text text' heard heard' : List ℕ) : Type 0 where
  pub piece : List ℕ
  pub came : heard' ≡ heard ++ piece
  pub added : text' ≡ text ++ piece

-- a text begins with the head of an answer, which ends at this place, and the client waits for the body
pub record HasHead (text : List ℕ) (status end : ℕ) (c : Client) : Type 0 where
  pub head : ResponseHead
  pub framing : Framing
  pub accepts : AcceptsResponse limits Other text head framing (drop end text)
  pub within : end ≤ length text
  pub code : status ≡ status_code head
  pub reading : c.reading ≡ Reads.Body (decoder_for limits framing)

-- a text is exactly the body for which a decoder waits, whatever comes after it
pub record HasBody (d : Decoder) (text body : List ℕ) : Type 0 where
  pub trailers : List Field
  pub reads : (more : List ℕ) → Completes d (text ++ more) (body_of body trailers) more
