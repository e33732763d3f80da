-- What Short asks for, and what is known once as many bytes are there.
use Rattle.std.proofs.Common.{◌≡◌, ◌≢◌, ◌≤◌, ◌<◌, ℕ, ℤ, Bool, true, false, cond, not, eqb, ltb, leb, List, [], ◌++◌, length, take, drop, Option, Some, None, Result, Ok, Err, IfErr, refl, sym, ap, ◌∙◌, subst, arith, length-append, lit<, inl, inr, ◌⊎◌}
use Rattle.std.proofs.lemmas.Bool.{cases_lt}
use Rattle.std.proofs.lemmas.Bool.Decides.{nat_tests}
use Rattle.std.proofs.lemmas.List.{take_all, take-append-le, length-take-le}
use Rattle.std.specs.Int.{w32, cast_signed}
use Rattle.bson_doc.specs.Steps.{fault_of}
use Rattle.bson_doc.proofs.Steps.{IfErr-bind, err_ok, err_same, err_from_fault}
use Rattle.msg_wire.specs.Asking.{AsksFor, IsWhole}
use Rattle.msg_wire.specs.Flags.{refused_bit, checksum_size}
use Rattle.msg_wire.specs.Framing.{Framed}
use Rattle.msg_wire.specs.Fields.{number_at}
use Rattle.msg_wire.specs.Reading.{is_length, need_of, checked_header, header_at, checked_flags, message_at, read, flaw}
use Rattle.msg_wire.specs.declared.fault.MsgFault.{MsgFault}
use Rattle.msg_wire.specs.declared.fault.MsgFault.TheVariants as fault
use Rattle.msg_wire.specs.declared.message.Message.{Message}
use Rattle.msg_wire.proofs.ByPlaces.{FramedByPlaces-from_Framed}
use Rattle.msg_wire.specs.Sections.{sections_at}
use Rattle.msg_wire.proofs.Behind.{IsBehind, IsBehind-sections_at}
use Rattle.msg_wire.proofs.Headers.{InOrder, InOrder-from_tests, header_at-whole}
use Rattle.msg_wire.proofs.Places.{number_at-append, number_at-take}

-- A fault of a message whose header is in order: of its flagBits, or of its sections.
abbrev pub IsOfMessage : List ℕ → MsgFault → Type 0
IsOfMessage bytes (fault.Flags bit) = refused_bit (number_at 16 bytes) ≡ Some bit
IsOfMessage bytes e = IsBehind (length bytes) e

of_flags : (bytes : List ℕ) (flags : ℕ) (refused : Option ℕ) → refused_bit (number_at 16 bytes) ≡ refused → IfErr (checked_flags flags refused) (IsOfMessage bytes)
of_flags bytes flags None h = tt
of_flags bytes flags (Some bit) h = h

of_sections : {A : Type 0} (bytes : List ℕ) (r : Result A MsgFault) → IfErr r (IsBehind (length bytes)) → IfErr r (IsOfMessage bytes)
of_sections bytes (Ok x) h = tt
of_sections bytes (Err (fault.Short need)) h = h
of_sections bytes (Err (fault.Length got)) h = h
of_sections bytes (Err (fault.Opcode got)) h = h
of_sections bytes (Err (fault.Flags bit)) h = absurd h
of_sections bytes (Err (fault.Sections at)) h = h
of_sections bytes (Err (fault.Body at inner)) h = h
of_sections bytes (Err fault.Memory) h = h

IfErr-message_at : (bytes : List ℕ) → IfErr (message_at bytes) (IsOfMessage bytes)
unfolding message_at
IfErr-message_at bytes =
    let end : ℕ = length bytes in
    let flags : ℕ = number_at 16 bytes in
    IfErr-bind (IsOfMessage bytes) (checked_flags flags (refused_bit flags)) _ (of_flags bytes flags (refused_bit flags) refl)
    (λ known. IfErr-bind (IsOfMessage bytes) (sections_at end (checksum_size known) end None (drop 20 bytes)) _ (of_sections bytes (sections_at end (checksum_size known) end None (drop 20 bytes)) (IsBehind-sections_at end (checksum_size known) end None (drop 20 bytes))) (λ held. tt))

-- A fault of the header's own numbers.
abbrev pub IsRefusal : ℕ → ℕ → MsgFault → Type 0
IsRefusal total code (fault.Length got) = (is_length total ≡ false) × (got ≡ cast_signed w32 total)
IsRefusal total code (fault.Opcode got) = (code ≢ 2013) × (got ≡ cast_signed w32 code)
IsRefusal total code _ = ⊥

-- The header has a fault of its own, however many bytes are there.
abbrev pub IsRefused : ℕ → ℕ → Type 0
IsRefused total code = (e : MsgFault) × IsRefusal total code e × ((there : ℕ) → checked_header there total code ≡ Err e)

not_true : (b : Bool) → not b ≡ true → b ≡ false
not_true true h = sym h
not_true false h = refl

other_code : (code : ℕ) → not (eqb code 2013) ≡ true → code ≢ 2013
other_code code h same = let clash : not (eqb 2013 2013) ≡ true = subst (λ (n : ℕ). not (eqb n 2013) ≡ true) same h in cc

judged_by : (total code : ℕ) (a b : Bool) → not (is_length total) ≡ a → not (eqb code 2013) ≡ b → InOrder total code ⊎ IsRefused total code
judged_by total code true b p q = inr (fault.Length (cast_signed w32 total), (not_true (is_length total) p, refl), λ there. rw p refl)
judged_by total code false true p q = inr (fault.Opcode (cast_signed w32 code), (other_code code q, refl), λ there. rw (p, q) refl)
judged_by total code false false p q = inl (InOrder-from_tests total code p q)

pub judged : (total code : ℕ) → InOrder total code ⊎ IsRefused total code
judged total code = judged_by total code (not (is_length total)) (not (eqb code 2013)) refl refl

pub read-early : (bytes : List ℕ) → length bytes < 16 → read bytes ≡ Err (fault.Short 16)
unfolding read header_at
read-early bytes few = let test : ltb (length bytes) 16 ≡ true = grind (arith, nat_tests) in rw test refl

pub read-refused : (bytes : List ℕ) (e : MsgFault) → 16 ≤ length bytes → checked_header (length bytes) (number_at 0 bytes) (number_at 12 bytes) ≡ Err e → read bytes ≡ Err e
unfolding read header_at
read-refused bytes e there h = let test : ltb (length bytes) 16 ≡ false = grind (arith, nat_tests) in rw (test, h) refl

pub read-partial : (bytes : List ℕ) → 16 ≤ length bytes → InOrder (number_at 0 bytes) (number_at 12 bytes) → length bytes < number_at 0 bytes
    → read bytes ≡ Err (fault.Short (number_at 0 bytes))
unfolding read
read-partial bytes there order few =
    let test : ltb (length bytes) (number_at 0 bytes) ≡ true = grind (arith, nat_tests) in
    rw (header_at-whole bytes there order, test) refl

pub read-whole : (bytes : List ℕ) → 16 ≤ length bytes → InOrder (number_at 0 bytes) (number_at 12 bytes) → number_at 0 bytes ≤ length bytes
    → read bytes ≡ message_at (take (number_at 0 bytes) bytes)
unfolding read
read-whole bytes there order enough =
    let test : ltb (length bytes) (number_at 0 bytes) ≡ false = grind (arith, nat_tests) in
    rw (header_at-whole bytes there order, test) refl

of_result : (bytes : List ℕ) (r : Result Message MsgFault) (e : MsgFault) → IfErr r (IsOfMessage bytes) → r ≡ Err e → IsOfMessage bytes e
of_result bytes (Ok m) e b h = absurd (err_ok (sym h))
of_result bytes (Err f) e b h = subst (IsOfMessage bytes) (err_same (Err f) f e refl h) b

pub of_message : (bytes : List ℕ) (e : MsgFault) → message_at bytes ≡ Err e → IsOfMessage bytes e
of_message bytes e h = of_result bytes (message_at bytes) e (IfErr-message_at bytes) h

pub read-flaw : (bytes : List ℕ) (e : MsgFault) → flaw bytes ≡ Some e → read bytes ≡ Err e
unfolding flaw
read-flaw bytes e h = err_from_fault (read bytes) e h

flaw-read : (bytes : List ℕ) (e : MsgFault) → read bytes ≡ Err e → flaw bytes ≡ Some e
unfolding flaw
flaw-read bytes e h = ap fault_of h

flaw-same : (a b : List ℕ) → read a ≡ read b → flaw a ≡ flaw b
unfolding flaw
flaw-same a b h = ap fault_of h

need_of-in_order : (bytes : List ℕ) → 16 ≤ length bytes → InOrder (number_at 0 bytes) (number_at 12 bytes) → need_of bytes ≡ Some (number_at 0 bytes)
need_of-in_order bytes there order =
    let four : ltb (length bytes) 4 ≡ false = grind (arith, nat_tests) in
    let least : leb 26 (number_at 0 bytes) ≡ true = grind (arith, nat_tests, order.least) in
    let most : leb (number_at 0 bytes) 48000000 ≡ true = grind (arith, nat_tests, order.most) in
    rw (four, least, most) refl

short_is : (r : Result Message MsgFault) (a n : ℕ) → r ≡ Err (fault.Short a) → r ≡ Err (fault.Short n) → a ≡ n
short_is r a n p q = cc

-- Where a whole header asks for more bytes, it is in order, and what it asks for is its messageLength.
pub record Waits (bytes : List ℕ) (n : ℕ) : Type 0 where
  pub order : InOrder (number_at 0 bytes) (number_at 12 bytes)
  pub total : number_at 0 bytes ≡ n
  pub fewer : length bytes < n

pub Waits-from_flaw : (bytes : List ℕ) (n : ℕ) → 16 ≤ length bytes → flaw bytes ≡ Some (fault.Short n) → Waits bytes n
Waits-from_flaw bytes n there h = elim (judged (number_at 0 bytes) (number_at 12 bytes)) [
  | inr refused ↦
      let same = err_same (read bytes) refused.0 (fault.Short n) (read-refused bytes refused.0 there (refused.2 (length bytes))) (read-flaw bytes (fault.Short n) h) in
      absurd (subst (IsRefusal (number_at 0 bytes) (number_at 12 bytes)) same refused.1)
  | inl order ↦ elim (cases_lt (length bytes) (number_at 0 bytes)) [
    | inl few ↦
        let total = short_is (read bytes) (number_at 0 bytes) n (read-partial bytes there order few) (read-flaw bytes (fault.Short n) h) in
        record { order = order; total = total; fewer = omega arith }
    | inr enough ↦ absurd (of_message (take (number_at 0 bytes) bytes) (fault.Short n) (sym (read-whole bytes there order enough) ∙ read-flaw bytes (fault.Short n) h))
  ]
]

pub asks : (bytes : List ℕ) (n : ℕ) → flaw bytes ≡ Some (fault.Short n) → AsksFor bytes n
asks bytes n h = elim (cases_lt (length bytes) 16) [
  | inl few ↦
      let same : 16 ≡ n = short_is (read bytes) 16 n (read-early bytes few) (read-flaw bytes (fault.Short n) h) in
      record { more = omega arith; header = λ l. sym same; message = λ there. absurd (omega arith) }
  | inr there ↦
      let w = Waits-from_flaw bytes n there h in
      record { more = w.fewer; header = λ l. absurd (omega arith); message = λ l. need_of-in_order bytes there w.order ∙ ap Some w.total }
]

pub settled : (bytes more : List ℕ) → ((n : ℕ) → flaw bytes ≢ Some (fault.Short n)) → flaw (bytes ++ more) ≡ flaw bytes
settled bytes more h = elim (cases_lt (length bytes) 16) [
  | inl few ↦ absurd (h 16 (flaw-read bytes (fault.Short 16) (read-early bytes few)))
  | inr there ↦
      let total = number_at-append 0 bytes more (omega arith) in
      let code = number_at-append 12 bytes more (omega arith) in
      let there' : 16 ≤ length (bytes ++ more) = omega (arith, length-append bytes more) in
      elim (judged (number_at 0 bytes) (number_at 12 bytes)) [
        | inr refused ↦
            let later = read-refused (bytes ++ more) refused.0 there' (rw (total, code) (refused.2 (length (bytes ++ more)))) in
            flaw-same (bytes ++ more) bytes (later ∙ sym (read-refused bytes refused.0 there (refused.2 (length bytes))))
        | inl order ↦ elim (cases_lt (length bytes) (number_at 0 bytes)) [
          | inl few ↦ absurd (h (number_at 0 bytes) (flaw-read bytes (fault.Short (number_at 0 bytes)) (read-partial bytes there order few)))
          | inr enough ↦
              let order' : InOrder (number_at 0 (bytes ++ more)) (number_at 12 (bytes ++ more)) = rw (total, code) order in
              let later = read-whole (bytes ++ more) there' order' (omega (arith, total, length-append bytes more)) in
              let cut : take (number_at 0 (bytes ++ more)) (bytes ++ more) ≡ take (number_at 0 bytes) bytes = rw total (take-append-le (number_at 0 bytes) bytes more enough) in
              flaw-same (bytes ++ more) bytes (later ∙ ap message_at cut ∙ sym (read-whole bytes there order enough))
        ]
      ]
]

in_order-append : (bytes more : List ℕ) → 16 ≤ length bytes → InOrder (number_at 0 bytes) (number_at 12 bytes) → InOrder (number_at 0 (bytes ++ more)) (number_at 12 (bytes ++ more))
in_order-append bytes more there order = rw (number_at-append 0 bytes more (omega arith), number_at-append 12 bytes more (omega arith)) order

pub flaw-nil : flaw [] ≡ Some (fault.Short 16)
flaw-nil = flaw-read [] (fault.Short 16) (read-early [] (lit< tt))

-- Until as many bytes are there as it asked for, it asks for as many.
pub still_short : (bytes more : List ℕ) (n : ℕ) → flaw bytes ≡ Some (fault.Short n) → length (bytes ++ more) < n → flaw (bytes ++ more) ≡ Some (fault.Short n)
still_short bytes more n h few = elim (cases_lt (length bytes) 16) [
  | inl early ↦
      let same : n ≡ 16 = (asks bytes n h).header early in
      rw same (flaw-read (bytes ++ more) (fault.Short 16) (read-early (bytes ++ more) (omega arith)))
  | inr there ↦
      let w = Waits-from_flaw bytes n there h in
      let total : number_at 0 (bytes ++ more) ≡ n = number_at-append 0 bytes more (omega arith) ∙ w.total in
      let order = in_order-append bytes more there w.order in
      let later = read-partial (bytes ++ more) (omega (arith, length-append bytes more)) order (omega arith) in
      flaw-read (bytes ++ more) (fault.Short n) (later ∙ ap (λ k. Err (fault.Short k)) total)
]

-- Where the header is in order, no fault is its own.
not_refusal : (bytes : List ℕ) (e : MsgFault) → 16 ≤ length bytes → InOrder (number_at 0 bytes) (number_at 12 bytes) → (IsOfMessage (take (number_at 0 bytes) bytes) e → ⊥) → e ≢ fault.Short (number_at 0 bytes) → flaw bytes ≢ Some e
not_refusal bytes e there order b s h = elim (cases_lt (length bytes) (number_at 0 bytes)) [
  | inl few ↦ s (err_same (read bytes) e (fault.Short (number_at 0 bytes)) (read-flaw bytes e h) (read-partial bytes there order few))
  | inr enough ↦ b (of_message (take (number_at 0 bytes) bytes) e (sym (read-whole bytes there order enough) ∙ read-flaw bytes e h))
]

pub header_first : (bytes more : List ℕ) (n : ℕ) (got : ℤ) → 16 ≤ length bytes → flaw bytes ≡ Some (fault.Short n)
    → (flaw (bytes ++ more) ≢ Some (fault.Length got)) × (flaw (bytes ++ more) ≢ Some (fault.Opcode got))
header_first bytes more n got there h =
    let w = Waits-from_flaw bytes n there h in
    let order = in_order-append bytes more there w.order in
    let there' : 16 ≤ length (bytes ++ more) = omega (arith, length-append bytes more) in
    (not_refusal (bytes ++ more) (fault.Length got) there' order (λ b. b) (λ e. cc), not_refusal (bytes ++ more) (fault.Opcode got) there' order (λ b. b) (λ e. cc))

-- A front that is framed says itself how long it is.
take-framed : (bytes : List ℕ) (k : ℕ) (message : Message) → Framed (take k bytes) message → number_at 0 bytes ≡ length bytes → take k bytes ≡ bytes
take-framed bytes k message m total =
    let p = FramedByPlaces-from_Framed (take k bytes) message m in
    elim (cases_lt k (length bytes)) [
      | inl less ↦
          let size = length-take-le k bytes (omega arith) in
          absurd (omega (arith, p.least, p.total, number_at-take 0 k bytes (omega (arith, p.least, size)) (omega arith), size))
      | inr more ↦ take_all k bytes more
    ]

picked : (few fits : Bool) (total n : ℕ) → cond few None (cond fits (Some total) None) ≡ Some n → (fits ≡ true) × (total ≡ n)
picked true fits total n h = absurd cc
picked false false total n h = absurd cc
picked false true total n h = (refl, cc)

-- What a header's messageLength is, where it is in its range.
pub need_of-Some : (bytes : List ℕ) (n : ℕ) → need_of bytes ≡ Some n → (number_at 0 bytes ≡ n) × (26 ≤ n)
need_of-Some bytes n h =
    let p = picked (ltb (length bytes) 4) (is_length (number_at 0 bytes)) (number_at 0 bytes) n h in
    (p.1, grind (arith, nat_tests, p.0, p.1))

-- Where the bytes are as many as their header says, a message at their front is all of them.
pub all_of_it : (bytes : List ℕ) → IsWhole bytes → (k : ℕ) (message : Message) → Framed (take k bytes) message → Framed bytes message
all_of_it bytes h k message m =
    let total = (need_of-Some bytes (length bytes) h).0 in
    subst (λ (whole : List ℕ). Framed whole message) (take-framed bytes k message m total) m

-- No more are asked for.
pub not_short : (bytes : List ℕ) → IsWhole bytes → (n : ℕ) → flaw bytes ≢ Some (fault.Short n)
not_short bytes h n e =
    let size = need_of-Some bytes (length bytes) h in
    let w = Waits-from_flaw bytes n (omega (arith, size.1)) e in
    omega (arith, w.total, w.fewer, size.0)

pub enough : (bytes more : List ℕ) (n : ℕ) → 16 ≤ length bytes → flaw bytes ≡ Some (fault.Short n) → length (bytes ++ more) ≡ n → IsWhole (bytes ++ more)
enough bytes more n there h whole =
    let w = Waits-from_flaw bytes n there h in
    let there' : 16 ≤ length (bytes ++ more) = omega (arith, length-append bytes more) in
    let order = in_order-append bytes more there w.order in
    let total : number_at 0 (bytes ++ more) ≡ length (bytes ++ more) = number_at-append 0 bytes more (omega arith) ∙ w.total ∙ sym whole in
    need_of-in_order (bytes ++ more) there' order ∙ ap Some total
