-- Where a fault comes from, that its place lies inside the message, and that want of memory is none.
use Rattle.std.proofs.Common.{◌≡◌, ◌≢◌, ◌≤◌, ℕ, ℤ, Bool, true, false, cond, ltb, List, length, take, Some, None, inl, inr, refl, sym, ap, ◌∙◌, subst, arith}
use Rattle.std.proofs.lemmas.Bool.{cases_lt}
use Rattle.std.proofs.lemmas.List.{length-take-le}
use Rattle.bson_doc.proofs.Steps.{err_same}
use Rattle.bson_doc.specs.declared.bson_fault.BsonFault.TheVariants as bson_fault
use Rattle.msg_wire.specs.Fields.{number_at, signed_at}
use Rattle.msg_wire.specs.Places.{place_of}
use Rattle.msg_wire.specs.Flags.{refused_bit}
use Rattle.msg_wire.specs.Reading.{flaw, is_length, need_of, read}
use Rattle.msg_wire.specs.declared.fault.MsgFault.{MsgFault}
use Rattle.msg_wire.specs.declared.fault.MsgFault.TheVariants as fault
use Rattle.msg_wire.proofs.Asked.{IsOfMessage, IsRefusal, judged, of_message, need_of-Some, read-early, read-flaw, read-partial, read-refused, read-whole}
use Rattle.msg_wire.proofs.Places.{number_at-take}

-- Bytes are wanting, or a number of the header is at fault, or what stands behind a header that is in order.
data ComesFrom (bytes : List ℕ) (e : MsgFault) : Type 0 where
  wanting : (n : ℕ) → e ≡ fault.Short n → ComesFrom bytes e
  header : 16 ≤ length bytes → IsRefusal (number_at 0 bytes) (number_at 12 bytes) e → ComesFrom bytes e
  behind : 26 ≤ number_at 0 bytes → number_at 0 bytes ≤ length bytes → IsOfMessage (take (number_at 0 bytes) bytes) e → ComesFrom bytes e

from_flaw : (bytes : List ℕ) (e : MsgFault) → flaw bytes ≡ Some e → ComesFrom bytes e
from_flaw bytes e h = elim (cases_lt (length bytes) 16) [
  | inl few ↦ wanting 16 (err_same (read bytes) e (fault.Short 16) (read-flaw bytes e h) (read-early bytes few))
  | inr there ↦ elim (judged (number_at 0 bytes) (number_at 12 bytes)) [
    | inr refused ↦
        let same : refused.0 ≡ e = err_same (read bytes) refused.0 e (read-refused bytes refused.0 there (refused.2 (length bytes))) (read-flaw bytes e h) in
        header there (subst (IsRefusal (number_at 0 bytes) (number_at 12 bytes)) same refused.1)
    | inl order ↦ elim (cases_lt (length bytes) (number_at 0 bytes)) [
      | inl few ↦ wanting (number_at 0 bytes) (err_same (read bytes) e (fault.Short (number_at 0 bytes)) (read-flaw bytes e h) (read-partial bytes there order few))
      | inr enough ↦ behind order.least enough (of_message (take (number_at 0 bytes) bytes) e (sym (read-whole bytes there order enough) ∙ read-flaw bytes e h))
    ]
  ]
]

-- ---- its place

some_is : (a b : ℕ) → Some a ≡ Some b → a ≡ b
some_is a b e = cc

-- A fault of the header's numbers names one of its fields.
refused_place : (total code : ℕ) (e : MsgFault) (at : ℕ) → IsRefusal total code e → place_of e ≡ Some at → at ≤ 12
refused_place total code (fault.Short need) at h e = absurd h
refused_place total code (fault.Length got) at h e = let same = some_is 0 at e in omega arith
refused_place total code (fault.Opcode got) at h e = let same = some_is 12 at e in omega arith
refused_place total code (fault.Flags bit) at h e = absurd h
refused_place total code (fault.Sections place) at h e = absurd h
refused_place total code (fault.Body place inner) at h e = absurd h
refused_place total code fault.Memory at h e = absurd h

-- A fault of what stands behind the header lies inside the message.
behind_place : (bytes : List ℕ) (e : MsgFault) (at : ℕ) → 26 ≤ length bytes → IsOfMessage bytes e → place_of e ≡ Some at → at ≤ length bytes
behind_place bytes (fault.Short need) at least h e = absurd h
behind_place bytes (fault.Length got) at least h e = absurd h
behind_place bytes (fault.Opcode got) at least h e = absurd h
behind_place bytes (fault.Flags bit) at least h e = let same = some_is 16 at e in omega arith
behind_place bytes (fault.Sections place) at least h e = let same = some_is place at e in omega (arith, h)
behind_place bytes (fault.Body place inner) at least h e = let same = some_is place at e in omega (arith, h.0)
behind_place bytes fault.Memory at least h e = absurd h

-- That bytes are wanting has no place.
no_place : (e : MsgFault) (n at : ℕ) → e ≡ fault.Short n → place_of e ≡ Some at → ⊥
no_place e n at short place = let clash : None ≡ Some at = ap place_of (sym short) ∙ place in cc

abbrev pub IsInside : List ℕ → ℕ → Type 0
IsInside bytes at = (at ≤ length bytes) × ((n : ℕ) → need_of bytes ≡ Some n → at ≤ n)

inside_from : (bytes : List ℕ) (e : MsgFault) (at : ℕ) → place_of e ≡ Some at → ComesFrom bytes e → IsInside bytes at
inside_from bytes e at place (wanting n short) = absurd (no_place e n at short place)
inside_from bytes e at place (header there refusal) =
    let field = refused_place (number_at 0 bytes) (number_at 12 bytes) e at refusal place in
    (omega (arith, field, there), λ n need. let size = need_of-Some bytes n need in omega (arith, field, size.1))
inside_from bytes e at place (behind least enough is) =
    let size : length (take (number_at 0 bytes) bytes) ≡ number_at 0 bytes = length-take-le (number_at 0 bytes) bytes enough in
    let within = behind_place (take (number_at 0 bytes) bytes) e at (omega (arith, least, size)) is place in
    (omega (arith, within, size, enough), λ n need. let total = need_of-Some bytes n need in omega (arith, within, size, total.0))

pub inside : (bytes : List ℕ) (e : MsgFault) (at : ℕ) → flaw bytes ≡ Some e → place_of e ≡ Some at → IsInside bytes at
inside bytes e at h place = inside_from bytes e at place (from_flaw bytes e h)

-- ---- want of memory

-- The fault is no want of memory, nor one inside a document.
abbrev pub IsOfBytes : MsgFault → Type 0
IsOfBytes (fault.Body at inner) = inner ≢ bson_fault.Memory
IsOfBytes fault.Memory = ⊥
IsOfBytes _ = Unit {0}

behind_bytes : (bytes : List ℕ) (e : MsgFault) → IsOfMessage bytes e → IsOfBytes e
behind_bytes bytes (fault.Short need) h = tt
behind_bytes bytes (fault.Length got) h = tt
behind_bytes bytes (fault.Opcode got) h = tt
behind_bytes bytes (fault.Flags bit) h = tt
behind_bytes bytes (fault.Sections place) h = tt
behind_bytes bytes (fault.Body place inner) h = h.1
behind_bytes bytes fault.Memory h = h

refused_bytes : (total code : ℕ) (e : MsgFault) → IsRefusal total code e → IsOfBytes e
refused_bytes total code (fault.Short need) h = tt
refused_bytes total code (fault.Length got) h = tt
refused_bytes total code (fault.Opcode got) h = tt
refused_bytes total code (fault.Flags bit) h = tt
refused_bytes total code (fault.Sections place) h = tt
refused_bytes total code (fault.Body place inner) h = absurd h
refused_bytes total code fault.Memory h = h

of_bytes_from : (bytes : List ℕ) (e : MsgFault) → ComesFrom bytes e → IsOfBytes e
of_bytes_from bytes e (wanting n short) = subst IsOfBytes (sym short) tt
of_bytes_from bytes e (header there refusal) = refused_bytes (number_at 0 bytes) (number_at 12 bytes) e refusal
of_bytes_from bytes e (behind least enough is) = behind_bytes (take (number_at 0 bytes) bytes) e is

pub of_bytes : (bytes : List ℕ) (e : MsgFault) → flaw bytes ≡ Some e → IsOfBytes e
of_bytes bytes e h = of_bytes_from bytes e (from_flaw bytes e h)

-- ---- the numbers of the header and flagBits

none_either : (few fits : Bool) (n : ℕ) → fits ≡ false → cond few None (cond fits (Some n) None) ≡ None
none_either true fits n out = refl
none_either false true n out = absurd cc
none_either false false n out = refl

no_need : (bytes : List ℕ) → is_length (number_at 0 bytes) ≡ false → need_of bytes ≡ None
no_need bytes out = none_either (ltb (length bytes) 4) (is_length (number_at 0 bytes)) (number_at 0 bytes) out

length_from : (bytes : List ℕ) (got : ℤ) → ComesFrom bytes (fault.Length got) → (need_of bytes ≡ None) × (got ≡ signed_at 0 bytes)
length_from bytes got (wanting n short) = absurd cc
length_from bytes got (header there refusal) = (no_need bytes refusal.0, refusal.1)
length_from bytes got (behind least enough is) = absurd is

pub length_means : (bytes : List ℕ) (got : ℤ) → flaw bytes ≡ Some (fault.Length got) → (need_of bytes ≡ None) × (got ≡ signed_at 0 bytes)
length_means bytes got h = length_from bytes got (from_flaw bytes (fault.Length got) h)

opcode_from : (bytes : List ℕ) (got : ℤ) → ComesFrom bytes (fault.Opcode got) → (number_at 12 bytes ≢ 2013) × (got ≡ signed_at 12 bytes)
opcode_from bytes got (wanting n short) = absurd cc
opcode_from bytes got (header there refusal) = refusal
opcode_from bytes got (behind least enough is) = absurd is

pub opcode_means : (bytes : List ℕ) (got : ℤ) → flaw bytes ≡ Some (fault.Opcode got) → (number_at 12 bytes ≢ 2013) × (got ≡ signed_at 12 bytes)
opcode_means bytes got h = opcode_from bytes got (from_flaw bytes (fault.Opcode got) h)

flags_from : (bytes : List ℕ) (bit : ℕ) → ComesFrom bytes (fault.Flags bit) → refused_bit (number_at 16 bytes) ≡ Some bit
flags_from bytes bit (wanting n short) = absurd cc
flags_from bytes bit (header there refusal) = absurd refusal
flags_from bytes bit (behind least enough is) = ap refused_bit (sym (number_at-take 16 (number_at 0 bytes) bytes (omega (arith, least)) enough)) ∙ is

pub flags_mean : (bytes : List ℕ) (bit : ℕ) → flaw bytes ≡ Some (fault.Flags bit) → refused_bit (number_at 16 bytes) ≡ Some bit
flags_mean bytes bit h = flags_from bytes bit (from_flaw bytes (fault.Flags bit) h)
