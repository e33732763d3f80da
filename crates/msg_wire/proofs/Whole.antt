-- Reading gives a message exactly where the bytes begin with its frame.
use Rattle.std.proofs.Common.{◌≡◌, ◌≤◌, ◌<◌, ℕ, false, ltb, List, [], ◌++◌, length, take, drop, Some, None, Option, Result, Ok, Err, refl, sym, ap, ◌∙◌, subst, arith, length-append}
use Rattle.std.proofs.lemmas.List.{append-nil, take_at, take-append-drop, length-drop, length-take-le, nil_from_length}
use Rattle.std.proofs.lemmas.Bool.Decides.{nat_tests}
use Rattle.bson_doc.specs.Steps.{fault_of}
use Rattle.bson_doc.proofs.Steps.{bind_ok}
use Rattle.msg_wire.specs.Fields.{number_at, signed_at}
use Rattle.msg_wire.specs.Flags.{refused_bit, checksum_size}
use Rattle.msg_wire.specs.Framing.{Framed}
use Rattle.msg_wire.specs.Reading.{checked_flags, header_at, message_at, read, flaw}
use Rattle.msg_wire.specs.Sections.{sections_at}
use Rattle.msg_wire.specs.declared.fault.MsgFault.{MsgFault}
use Rattle.msg_wire.specs.declared.message.Message.{Message}
use Rattle.msg_wire.proofs.ByPlaces.{FramedByPlaces, FramedByPlaces-from_Framed, Framed-from_places}
use Rattle.msg_wire.proofs.Headers.{InOrder, header_at-ok, header_at-whole}
use Rattle.msg_wire.proofs.Messages.{message_at-parts}
use Rattle.msg_wire.proofs.Places.{number_at-append, number_at-take}
use Rattle.msg_wire.proofs.SectionLaws.{sections_take, sections_again}

checked_flags-ok : (flags : ℕ) (refused : Option ℕ) (n : ℕ) → checked_flags flags refused ≡ Ok n → (refused ≡ None) × (flags ≡ n)
checked_flags-ok flags None n h = (refl, cc)
checked_flags-ok flags (Some bit) n h = cc

-- What is known of a whole message that is read.
message_at-ok : (bytes : List ℕ) (message : Message) → 26 ≤ length bytes → length bytes ≤ 48000000 → number_at 0 bytes ≡ length bytes → number_at 12 bytes ≡ 2013
    → message_at bytes ≡ Ok message → FramedByPlaces bytes message
unfolding message_at
message_at-ok bytes message least size total code h =
    let a = bind_ok (checked_flags (number_at 16 bytes) (refused_bit (number_at 16 bytes))) _ message h in
    let b = bind_ok (sections_at (length bytes) (checksum_size a.0) (length bytes) None (drop 20 bytes)) _ message a.2 in
    let t = sections_take (length bytes) (checksum_size a.0) (length bytes) (drop 20 bytes) b.0 b.1 in
    let flags = checked_flags-ok (number_at 16 bytes) (refused_bit (number_at 16 bytes)) a.0 a.1 in
    let read : FramedByPlaces bytes (record { id = signed_at 4 bytes; to = signed_at 8 bytes; flags = a.0; body = b.0.0; sequences = b.0.1; length = length bytes }) = record {
      least = least;
      size = size;
      total = total;
      id = refl;
      to = refl;
      code = code;
      flags = flags.1;
      known = ap refused_bit (sym flags.1) ∙ flags.0;
      sections = t.text;
      checksum = t.left;
      behind = t.parts;
      are_sections = t.are;
      is_checksum = t.size;
      counted = refl;
    } in
    let same : record { id = signed_at 4 bytes; to = signed_at 8 bytes; flags = a.0; body = b.0.0; sequences = b.0.1; length = length bytes } ≡ message = cc (b.2) in
    subst (λ (m : Message). FramedByPlaces bytes m) same read

-- What is read is framed so.
pub read_takes : (bytes : List ℕ) (message : Message) → read bytes ≡ Ok message → (message.length ≤ length bytes) × Framed (take message.length bytes) message
unfolding read
read_takes bytes message h =
    let a = bind_ok (header_at bytes) _ message h in
    let n = a.0 in
    let front = header_at-ok bytes n a.1 in
    let least = front.0.least in
    let size : length (take n bytes) ≡ n = length-take-le n bytes front.1 in
    let total : number_at 0 (take n bytes) ≡ length (take n bytes) = number_at-take 0 n bytes (omega arith) front.1 ∙ sym front.2 ∙ sym size in
    let code : number_at 12 (take n bytes) ≡ 2013 = number_at-take 12 n bytes (omega arith) front.1 ∙ front.0.is_code in
    let places = message_at-ok (take n bytes) message (omega arith) (omega (arith, front.0.most)) total code a.2 in
    let counted : message.length ≡ n = places.counted ∙ size in
    subst (λ (k : ℕ). (k ≤ length bytes) × Framed (take k bytes) message) (sym counted) (front.1, Framed-from_places (take n bytes) message places)

message_at-framed : (bytes : List ℕ) (message : Message) → FramedByPlaces bytes message → message_at bytes ≡ Ok message
message_at-framed bytes message p =
    let known : refused_bit (number_at 16 bytes) ≡ None = ap refused_bit p.flags ∙ p.known in
    let flags : checked_flags (number_at 16 bytes) (refused_bit (number_at 16 bytes)) ≡ Ok message.flags = rw (known, p.flags) refl in
    let least = p.least in
    let few : length (p.sections ++ p.checksum) < length bytes = omega (arith, ap length p.behind, length-drop 20 bytes) in
    let held = ap (sections_at (length bytes) (checksum_size message.flags) (length bytes) None) p.behind
    ∙ sections_again (length bytes) (checksum_size message.flags) (length bytes) p.sections p.checksum message.body message.sequences few p.is_checksum p.are_sections in
    let whole = message_at-parts bytes message.flags (message.body, message.sequences) flags held in
    whole ∙ rw (p.id, p.to, sym p.counted) refl

-- What is framed so is read again, whatever follows.
pub read_again : (bytes more : List ℕ) (message : Message) → Framed bytes message → read (bytes ++ more) ≡ Ok message
unfolding read
read_again bytes more message m =
    let p = FramedByPlaces-from_Framed bytes message m in
    let least = p.least in
    let total : number_at 0 (bytes ++ more) ≡ length bytes = number_at-append 0 bytes more (omega arith) ∙ p.total in
    let code : number_at 12 (bytes ++ more) ≡ 2013 = number_at-append 12 bytes more (omega arith) ∙ p.code in
    let order : InOrder (number_at 0 (bytes ++ more)) (number_at 12 (bytes ++ more)) = record { least = omega arith; most = omega (arith, p.size); is_code = code } in
    let there = length-append bytes more in
    let test : ltb (length (bytes ++ more)) (length bytes) ≡ false = grind (arith, nat_tests, there) in
    let header : header_at (bytes ++ more) ≡ Ok (length bytes) = header_at-whole (bytes ++ more) (omega arith) order ∙ rw (total, test) refl in
    rw (header, take_at bytes more (length bytes) refl) (message_at-framed bytes message p)

pub one_message : (bytes : List ℕ) (a b : Message) → Framed bytes a → Framed bytes b → a ≡ b
one_message bytes a b p q = let x = read_again bytes [] a p in let y = read_again bytes [] b q in cc

pub no_prefix : (bytes more : List ℕ) (a b : Message) → Framed bytes a → Framed (bytes ++ more) b → more ≡ []
no_prefix bytes more a b p q =
    let x = read_again bytes more a p in
    let y = ap read (sym (append-nil (bytes ++ more))) ∙ read_again (bytes ++ more) [] b q in
    let same : a ≡ b = cc (x, y) in
    nil_from_length more (omega (arith, p.counted, q.counted, ap (λ (m : Message). m.length) same, length-append bytes more))

pub length-Framed : (bytes : List ℕ) (message : Message) → Framed bytes message → 26 ≤ length bytes
length-Framed bytes message m = (FramedByPlaces-from_Framed bytes message m).least

fault_of-none : {A : Type 0} (r : Result A MsgFault) → fault_of r ≡ None → (x : A) × (r ≡ Ok x)
fault_of-none (Ok x) h = (x, refl)
fault_of-none (Err e) h = cc

pub flawless : (bytes : List ℕ) → flaw bytes ≡ None → (n : ℕ) × (message : Message) × Framed (take n bytes) message
unfolding flaw
flawless bytes h = let r = fault_of-none (read bytes) h in (r.0.length, r.0, (read_takes bytes r.0 r.1).1)

pub flaw-ok : (bytes : List ℕ) (message : Message) → read bytes ≡ Ok message → flaw bytes ≡ None
unfolding flaw
flaw-ok bytes message h = ap fault_of h

pub flaw-framed : (bytes : List ℕ) (n : ℕ) (message : Message) → Framed (take n bytes) message → flaw bytes ≡ None
flaw-framed bytes n message m =
    flaw-ok bytes message (ap read (sym (take-append-drop n bytes)) ∙ read_again (take n bytes) (drop n bytes) message m)
