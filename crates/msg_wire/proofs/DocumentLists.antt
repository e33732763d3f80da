-- Documents one after another: what is read is spelled so, and what is spelled so is read; and reading them as a loop does.
use Rattle.std.proofs.Common.{◌≡◌, ℕ, zero, suc, ◌+◌, ◌-◌, ◌<◌, ◌≤◌, List, [], ◌∷◌, ◌++◌, length, Result, Ok, Err, refl, sym, ap, subst, ◌∙◌, append_assoc, arith, length-append}
use Rattle.std.proofs.lemmas.List.{append-nil, nil_from_length}
use Rattle.bson_doc.specs.Steps.{◌>>=◌, Fails}
use Rattle.bson_doc.specs.declared.value.Document.{Document}
use Rattle.bson_doc.proofs.Steps.{bind_ok, mapped-Ok, ok_is, err_ok, Fails-bind}
use Rattle.bson_doc.specs.wire.Reading.{flaw}
use Rattle.bson_doc.specs.wire.Reading as documents
use Rattle.bson_doc.proofs.wire.Outermost.{read_takes, read_again}
use Rattle.msg_wire.specs.Framing.{AreDocuments}
use Rattle.msg_wire.specs.Sections.{document_at, documents_at}
use Rattle.msg_wire.specs.declared.fault.MsgFault.{MsgFault}
use Rattle.msg_wire.specs.declared.fault.MsgFault.TheVariants as fault
use Rattle.msg_wire.proofs.Sizes.{length-Spells}

pub document_at-ok : (place : ℕ) (read : documents.Read Document) (x : Document × List ℕ) → document_at place read ≡ Ok x → read ≡ Ok x
document_at-ok place (Ok y) x h = cc
document_at-ok place (Err e) x h = cc

pub documents_take : (fuel end : ℕ) (bytes : List ℕ) (ds : List Document) → documents_at fuel end bytes ≡ Ok ds → AreDocuments bytes ds
unfolding documents_at
documents_take zero end bytes ds e = absurd (err_ok e)
documents_take (suc fuel) end [] ds e = subst (AreDocuments []) (ok_is [] ds e) refl
documents_take (suc fuel) end (byte ∷ bytes) ds e =
    let a = bind_ok (document_at (end - length (byte ∷ bytes)) (documents.read (byte ∷ bytes))) (λ first. documents_at fuel end first.1 >>= (λ others. Ok (first.0 ∷ others))) ds e in
    let b = mapped-Ok (λ others. a.0.0 ∷ others) (documents_at fuel end a.0.1) ds a.2 in
    let t = read_takes (byte ∷ bytes) a.0 (document_at-ok (end - length (byte ∷ bytes)) (documents.read (byte ∷ bytes)) a.0 a.1) in
    subst (AreDocuments (byte ∷ bytes)) b.2 (t.text, a.0.1, t.parts, t.spells, documents_take fuel end a.0.1 b.0 b.1)

documents_at-more : (fuel end : ℕ) (bytes : List ℕ) (d : Document) (others : List ℕ) (ds : List Document) → 0 < length bytes → documents.read bytes ≡ Ok (d, others) → documents_at fuel end others ≡ Ok ds
    → documents_at (suc fuel) end bytes ≡ Ok (d ∷ ds)
unfolding documents_at
documents_at-more fuel end [] d others ds lt r h = absurd (omega arith)
documents_at-more fuel end (byte ∷ bytes) d others ds lt r h = rw (r, h) refl

pub documents_again : (ds : List Document) (fuel end : ℕ) (bytes : List ℕ) → length bytes < fuel → AreDocuments bytes ds → documents_at fuel end bytes ≡ Ok ds
unfolding documents_at
documents_again ds zero end bytes lt h = absurd (omega arith)
documents_again [] (suc fuel) end bytes lt h = rw h refl
documents_again (d ∷ ds) (suc fuel) end bytes lt (first, others, parts, spells, more) =
    let least : 5 ≤ length first = length-Spells first d spells in
    let size : length bytes ≡ length first + length others = ap length parts ∙ length-append first others in
    let read : documents.read bytes ≡ Ok (d, others) = ap documents.read parts ∙ read_again first others d spells in
    documents_at-more fuel end bytes d others ds (omega arith) read (documents_again ds fuel end others (omega arith) more)

-- ---- as a loop

abbrev pub with_front : List Document → Result (List Document) MsgFault → Result (List Document) MsgFault
with_front front read = read >>= (λ ds. Ok (front ++ ds))

-- What was read so far, and what is read of the rest, is the total.
abbrev pub GoesOn : ℕ → List Document → List ℕ → Result (List Document) MsgFault → Type 0
GoesOn end front rest total = (k : ℕ) × (length rest < k) × (with_front front (documents_at k end rest) ≡ total)

regroup : (front : List Document) (d : Document) (read : Result (List Document) MsgFault) → with_front front (read >>= (λ ds. Ok (d ∷ ds))) ≡ with_front (front ++ d ∷ []) read
regroup front d (Ok ds) = ap (λ (xs : List Document). Ok xs) (sym (append_assoc front (d ∷ []) ds))
regroup front d (Err e) = refl

pub goes_on : (end : ℕ) (front : List Document) (rest after : List ℕ) (d : Document) (total : Result (List Document) MsgFault) → document_at (end - length rest) (documents.read rest) ≡ Ok (d, after) → length after < length rest
    → GoesOn end front rest total → GoesOn end (front ++ d ∷ []) after total
unfolding documents_at
goes_on end front rest after d total h lt (zero, fits, so_far) = absurd (omega arith)
goes_on end front [] after d total h lt (suc k, fits, so_far) = absurd (omega arith)
goes_on end front (byte ∷ bytes) after d total h lt (suc k, fits, so_far) =
    let one_read : with_front front (documents_at (suc k) end (byte ∷ bytes)) ≡ with_front (front ++ d ∷ []) (documents_at k end after) = rw h (regroup front d (documents_at k end after)) in
    (k, omega arith, sym one_read ∙ so_far)

pub stops : (end : ℕ) (front : List Document) (rest : List ℕ) (e : MsgFault) (total : Result (List Document) MsgFault) → 0 < length rest → Fails fault.Memory e (document_at (end - length rest) (documents.read rest))
    → GoesOn end front rest total → Fails fault.Memory e total
unfolding documents_at
stops end front rest e total lt h (zero, fits, so_far) = absurd (omega arith)
stops end front [] e total lt h (suc k, fits, so_far) = absurd (omega arith)
stops end front (byte ∷ bytes) e total lt h (suc k, fits, so_far) =
    subst (Fails fault.Memory e) so_far (Fails-bind fault.Memory e _ (λ ds. Ok (front ++ ds)) (Fails-bind fault.Memory e _ (λ first. documents_at k end first.1 >>= (λ others. Ok (first.0 ∷ others))) h))

ended : (end : ℕ) (front : List Document) (total : Result (List Document) MsgFault) → GoesOn end front [] total → total ≡ Ok front
unfolding documents_at
ended end front total (zero, fits, so_far) = absurd (omega arith)
ended end front total (suc k, fits, so_far) = sym so_far ∙ ap (λ (ds : List Document). Ok ds) (append-nil front)

pub is_done : (end : ℕ) (front : List Document) (rest : List ℕ) (total : Result (List Document) MsgFault) → length rest ≡ 0 → GoesOn end front rest total → total ≡ Ok front
is_done end front rest total none so_far = ended end front total (subst (λ (xs : List ℕ). GoesOn end front xs total) (nil_from_length rest none) so_far)
