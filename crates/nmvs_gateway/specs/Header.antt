-- The header that a gateway begins a connection with: version 2 of the PROXY protocol of HAProxy (section 2.2, binary
-- header format). The server takes only headers of a connection over TCP and TLS whose client presented a certificate in
-- it. The certificate was verified, and its common name is a name (own).
use Rattle.std.specs.Prelude.{◌≡◌, ◌<◌, ◌≤◌, ◌⊎◌, ◌==◌, ◌%◌, ℕ, Bool, List, [], ◌∷◌, ◌++◌, length, filter, IsTrue}
use Rattle.std.specs.List.{flat_map}
use Rattle.nmvs_identifier.specs.Name.{Name, is_name}
use Rattle.nmvs_gateway.specs.declared.header.Header.{Header}
use Rattle.nmvs_gateway.specs.declared.header.Header.TheVariants as headers

-- a value and its type, of which a header has several
pub record TypedValue : Type 0 where
  pub kind : ℕ
  pub value : List ℕ

-- its bytes: the type, the length of the value in two bytes, the high one first, and the value. In a header of less than 256
-- bytes of content the high one is 0
abbrev pub typed_bytes : TypedValue → List ℕ
typed_bytes v = v.kind ∷ 0 ∷ length v.value ∷ v.value

-- whether a value is of this type
abbrev pub is_of : ℕ → TypedValue → Bool
is_of kind v = v.kind == kind

-- the bytes are those of values, of which one alone is of this type
pub record IsOnlyValue (bytes : List ℕ) (kind : ℕ) (value : List ℕ) : Type 0 where
  pub values : List TypedValue
  pub these : bytes ≡ flat_map typed_bytes values
  pub only : filter (is_of kind) values ≡ record { kind = kind; value = value } ∷ []

-- the value about a connection's TLS: bits of the client, then four bytes that are 0 if the certificate was verified, then
-- parts. The lowest two bits say that the client used TLS and presented a certificate in this connection. One part, of type
-- 34 (PP2_SUBTYPE_SSL_CN), is the certificate's common name
pub record NamesVerified (tls name : List ℕ) : Type 0 where
  pub client : ℕ
  pub parts : List ℕ
  pub these : tls ≡ client ∷ 0 ∷ 0 ∷ 0 ∷ 0 ∷ parts
  pub presented : client % 4 ≡ 3
  pub common_name : IsOnlyValue parts 34 name
  pub grammar : IsTrue (is_name name)

-- the content of a header: this number of bytes of addresses, and values, of which one, of type 32 (PP2_TYPE_SSL), is about
-- the connection's TLS
pub record HasName (addresses : ℕ) (content name : List ℕ) : Type 0 where
  pub front : List ℕ
  pub values : List ℕ
  pub tls : List ℕ
  pub these : content ≡ front ++ values
  pub addressed : length front ≡ addresses
  pub encrypted : IsOnlyValue values 32 tls
  pub verified : NamesVerified tls name

-- a start, and then the low byte of the length of the content, and the content
pub record IsFrame (start bytes content : List ℕ) : Type 0 where
  pub these : bytes ≡ start ++ length content ∷ content
  pub short : length content < 256

-- a header with this start
pub record IsHeader (start : List ℕ) (addresses : ℕ) (bytes name : List ℕ) : Type 0 where
  pub content : List ℕ
  pub frame : IsFrame start bytes content
  pub names : HasName addresses content name

-- the bytes begin with a header of this length and name
pub record IsRead (start : List ℕ) (addresses : ℕ) (bytes name : List ℕ) (size : ℕ) : Type 0 where
  pub header : List ℕ
  pub behind : List ℕ
  pub these : bytes ≡ header ++ behind
  pub is_header : IsHeader start addresses header name
  pub sized : size ≡ length header

-- with this number of bytes more they are a frame, and with fewer they are none
pub record IsBegun (start bytes : List ℕ) (missing : ℕ) : Type 0 where
  pub some : 0 < missing
  pub more : List ℕ
  pub content : List ℕ
  pub frame : IsFrame start (bytes ++ more) content
  pub many : length more ≡ missing
  pub least : (others content : List ℕ) → IsFrame start (bytes ++ others) content → missing ≤ length others

-- the bytes begin with no header, and are no beginning of a frame
pub record IsBroken (start : List ℕ) (addresses : ℕ) (bytes : List ℕ) : Type 0 where
  pub no_header : (header behind name : List ℕ) → bytes ≡ header ++ behind → IsHeader start addresses header name → ⊥
  pub not_begun : (more content : List ℕ) → 0 < length more → IsFrame start (bytes ++ more) content → ⊥

-- the reading of bytes, if headers have this start
abbrev pub ReadsOver : List ℕ → ℕ → List ℕ → Header → Type 0
ReadsOver start addresses bytes (headers.Begun missing) = IsBegun start bytes missing
ReadsOver start addresses bytes (headers.Whole name size) = IsRead start addresses bytes name.bytes size
ReadsOver start addresses bytes headers.Broken = IsBroken start addresses bytes

-- the beginning of a header: signature, version 2 and command PROXY, family and protocol of the addresses, and the high
-- byte of the length
abbrev pub start_of : ℕ → List ℕ
start_of family = 13 ∷ 10 ∷ 13 ∷ 10 ∷ 0 ∷ 13 ∷ 10 ∷ 81 ∷ 85 ∷ 73 ∷ 84 ∷ 10 ∷ 33 ∷ family ∷ 0 ∷ []

-- the reading of bytes over TCP and IPv4 (17), and over TCP and IPv6 (33). Two addresses and two ports have 12 bytes
-- over IPv4, and 36 over IPv6.
abbrev pub ReadsIpv4 : List ℕ → Header → Type 0
ReadsIpv4 bytes header = ReadsOver (start_of 17) 12 bytes header

abbrev pub ReadsIpv6 : List ℕ → Header → Type 0
ReadsIpv6 bytes header = ReadsOver (start_of 33) 36 bytes header

-- the reading of bytes: a header is over IPv4 or over IPv6
abbrev pub ReadsHeader : List ℕ → Header → Type 0
ReadsHeader bytes (headers.Begun missing) = ReadsIpv4 bytes (headers.Begun missing) ⊎ ReadsIpv6 bytes (headers.Begun missing)
ReadsHeader bytes (headers.Whole name size) = ReadsIpv4 bytes (headers.Whole name size) ⊎ ReadsIpv6 bytes (headers.Whole name size)
ReadsHeader bytes headers.Broken = ReadsIpv4 bytes headers.Broken × ReadsIpv6 bytes headers.Broken

-- bytes have one reading only
abbrev pub OneReading : Type 0
OneReading = (bytes : List ℕ) (r s : Header) → ReadsHeader bytes r → ReadsHeader bytes s → r ≡ s

-- a header is the same whichever bytes follow it
abbrev pub LooksNotBehind : Type 0
LooksNotBehind = (bytes more : List ℕ) (name : Name) (size : ℕ) → ReadsHeader bytes (headers.Whole name size) → ReadsHeader (bytes ++ more) (headers.Whole name size)

-- if no more bytes follow a beginning than were missing, a header has all of them
abbrev pub EndsThere : Type 0
EndsThere = (bytes more : List ℕ) (missing : ℕ) (name : Name) (size : ℕ) → ReadsHeader bytes (headers.Begun missing) → length more ≤ missing
    → ReadsHeader (bytes ++ more) (headers.Whole name size) → size ≡ length (bytes ++ more)
