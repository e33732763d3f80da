-- The messages at the front of bytes: the one way to part the bytes, and that what is whole stays.
use Rattle.std.proofs.Common.{◌≡◌, ◌≢◌, ◌≤◌, ◌<◌, ℕ, zero, suc, ◌+◌, List, [], ◌∷◌, ◌++◌, length, take, drop, None, Some, Result, Ok, Err, refl, sym, ap, ◌∙◌, subst, arith, append_assoc, append-nil, length-append, length-drop}
use Rattle.std.proofs.Math.Seq.{drop-append_seam}
use Rattle.std.proofs.lemmas.List.{take-append-drop}
use Rattle.msg_wire.specs.Fronts.{IsFront}
use Rattle.msg_wire.specs.Messages.{Begins, IsFirst, IsParted, Parting, behind_messages, messages, parting_of, parting_within, with_message}
use Rattle.msg_wire.specs.Reading.{read}
use Rattle.msg_wire.specs.declared.fault.MsgFault.{MsgFault}
use Rattle.msg_wire.specs.declared.fault.MsgFault.TheVariants as fault
use Rattle.msg_wire.specs.declared.message.Message.{Message}
use Rattle.msg_wire.proofs.Asked.{read-flaw}
use Rattle.msg_wire.proofs.Whole.{length-Framed, read_again, read_takes}

-- ---- the first message

-- It is the one that is read.
pub read-first : (bytes : List ℕ) (message : Message) (rest : List ℕ) → IsFirst bytes message rest → read bytes ≡ Ok message
read-first bytes message rest first = ap read first.parts ∙ read_again first.text rest message first.framed

-- What is behind it is shorter.
length-first : (bytes : List ℕ) (message : Message) (rest : List ℕ) → IsFirst bytes message rest → length rest < length bytes
length-first bytes message rest first =
    omega (arith, ap length first.parts, length-append first.text rest, length-Framed first.text message first.framed)

-- It and what is behind it are one.
pub first-once : (bytes : List ℕ) (a b : Message) (rest other : List ℕ) → IsFirst bytes a rest → IsFirst bytes b other → (a ≡ b) × (rest ≡ other)
first-once bytes a b rest other p q =
    let is_same : Ok a ≡ Ok b = sym (read-first bytes a rest p) ∙ read-first bytes b other q in
    let same : a ≡ b = cc in
    let size : length p.text ≡ length q.text = sym p.framed.counted ∙ ap (λ m. m.length) same ∙ q.framed.counted in
    let behind : rest ≡ other = sym (drop-append_seam p.text rest) ∙ ap (drop (length p.text)) (sym p.parts ∙ q.parts) ∙ ap (λ n. drop n (q.text ++ other)) size ∙ drop-append_seam q.text other in
    (same, behind)

-- What is read is the first.
first-read : (bytes : List ℕ) (message : Message) → read bytes ≡ Ok message → IsFirst bytes message (drop message.length bytes)
first-read bytes message e = record {
  text = take message.length bytes;
  parts = sym (take-append-drop message.length bytes);
  framed = (read_takes bytes message e).1;
}

first-more : (bytes : List ℕ) (message : Message) (rest more : List ℕ) → IsFirst bytes message rest → IsFirst (bytes ++ more) message (rest ++ more)
first-more bytes message rest more first = record {
  text = first.text;
  parts = ap (λ (xs : List ℕ). xs ++ more) first.parts ∙ append_assoc first.text rest more;
  framed = first.framed;
}

-- Where reading meets a fault no message stands.
pub none_first : (bytes : List ℕ) (e : MsgFault) → read bytes ≡ Err e → (message : Message) (behind : List ℕ) → ¬ IsFirst bytes message behind
none_first bytes e h message behind first = let clash : Err e ≡ Ok message = sym h ∙ read-first bytes message behind first in cc

-- ---- any number of messages

Begins-same : (bytes other : List ℕ) (xs : List Message) (rest : List ℕ) → bytes ≡ other → Begins bytes xs rest → Begins other xs rest
Begins-same bytes other xs rest same begins = subst (λ (l : List ℕ). Begins l xs rest) same begins

-- They stand where they are when more bytes come.
pub Begins-more : (bytes : List ℕ) (xs : List Message) (rest more : List ℕ) → Begins bytes xs rest → Begins (bytes ++ more) xs (rest ++ more)
Begins-more bytes [] rest more begins = ap (λ (l : List ℕ). l ++ more) begins
Begins-more bytes (x ∷ xs) rest more begins = (begins.0 ++ more, first-more bytes x begins.0 more begins.1, Begins-more begins.0 xs rest more begins.2)

-- Further ones behind them.
pub Begins-append : (bytes : List ℕ) (xs : List Message) (between : List ℕ) (ys : List Message) (rest : List ℕ) → Begins bytes xs between → Begins between ys rest → Begins bytes (xs ++ ys) rest
Begins-append bytes [] between ys rest front behind = Begins-same between bytes ys rest (sym front) behind
Begins-append bytes (x ∷ xs) between ys rest front behind = (front.0, front.1, Begins-append front.0 xs between ys rest front.2 behind)

-- ---- all of them

pub parted-once : (bytes : List ℕ) (xs ys : List Message) (rest other : List ℕ) → IsParted bytes xs rest → IsParted bytes ys other → (xs ≡ ys) × (rest ≡ other)
parted-once bytes [] [] rest other p q = (refl, sym p.begins ∙ q.begins)
parted-once bytes [] (y ∷ ys) rest other p q = absurd (p.no_more y q.begins.0 (subst (λ (l : List ℕ). IsFirst l y q.begins.0) p.begins q.begins.1))
parted-once bytes (x ∷ xs) [] rest other p q = absurd (q.no_more x p.begins.0 (subst (λ (l : List ℕ). IsFirst l x p.begins.0) q.begins p.begins.1))
parted-once bytes (x ∷ xs) (y ∷ ys) rest other p q =
    let first = first-once bytes x y p.begins.0 q.begins.0 p.begins.1 q.begins.1 in
    let later = parted-once p.begins.0 xs ys rest other (record { begins = p.begins.2; no_more = p.no_more })
    (record { begins = Begins-same q.begins.0 p.begins.0 ys other (sym first.1) q.begins.2; no_more = q.no_more }) in
    (ap (λ m. m ∷ xs) first.0 ∙ ap (λ ms. y ∷ ms) later.0, later.1)

-- A parting, where that of what is behind the first message is one.
parted_step : (F : List ℕ → Parting) (bytes : List ℕ) (r : Result Message MsgFault) → read bytes ≡ r
    → ((rest : List ℕ) → length rest < length bytes → IsParted rest (F rest).messages (F rest).rest)
    → IsParted bytes (with_message F bytes r).messages (with_message F bytes r).rest
parted_step F bytes (Ok m) e others =
    let first = first-read bytes m e in
    let inner = others (drop m.length bytes) (length-first bytes m (drop m.length bytes) first) in
    record { begins = (drop m.length bytes, first, inner.begins); no_more = inner.no_more }
parted_step F bytes (Err e) h others = record { begins = refl; no_more = none_first bytes e h }

parted_within : (most : ℕ) (bytes : List ℕ) → length bytes ≤ most → IsParted bytes (parting_within most bytes).messages (parting_within most bytes).rest
unfolding parting_within
parted_within zero bytes few = record { begins = refl; no_more = λ message behind first. let less = length-first bytes message behind first in omega arith }
parted_within (suc most) bytes few = parted_step (parting_within most) bytes (read bytes) refl (λ rest less. parted_within most rest (omega arith))

-- The function gives a parting.
pub parted : (bytes : List ℕ) → IsParted bytes (messages bytes) (behind_messages bytes)
unfolding parting_of
parted bytes = parted_within (length bytes) bytes (omega arith)

-- Behind messages at the front are those of the rest.
pub messages-begin : (bytes : List ℕ) (xs : List Message) (rest : List ℕ) → Begins bytes xs rest
    → (messages bytes ≡ xs ++ messages rest) × (behind_messages bytes ≡ behind_messages rest)
messages-begin bytes xs rest begins =
    let behind = parted rest in
    parted-once bytes (messages bytes) (xs ++ messages rest) (behind_messages bytes) (behind_messages rest) (parted bytes)
    (record { begins = Begins-append bytes xs rest (messages rest) (behind_messages rest) begins behind.begins; no_more = behind.no_more })

-- What is whole stays where it is when more bytes come.
pub messages-more : (bytes more : List ℕ)
    → (messages (bytes ++ more) ≡ messages bytes ++ messages (behind_messages bytes ++ more)) × (behind_messages (bytes ++ more) ≡ behind_messages (behind_messages bytes ++ more))
messages-more bytes more =
    messages-begin (bytes ++ more) (messages bytes) (behind_messages bytes ++ more)
    (Begins-more bytes (messages bytes) (behind_messages bytes) more (parted bytes).begins)

-- A front begins with no message.
pub messages-front : (bytes : List ℕ) → IsFront bytes → (messages bytes ≡ []) × (behind_messages bytes ≡ bytes)
messages-front bytes front =
    parted-once bytes (messages bytes) [] (behind_messages bytes) bytes (parted bytes)
    (record { begins = refl; no_more = none_first bytes (fault.Short front.need) (read-flaw bytes (fault.Short front.need) front.short) })
