-- Reading sections one after the other, as a loop does.
use Rattle.std.proofs.Common.{◌≡◌, ℕ, zero, suc, ◌<◌, ◌≤◌, List, [], ◌∷◌, ◌++◌, length, Option, Some, None, is_some, Result, Ok, Err, refl, sym, ap, subst, ◌∙◌, append_assoc, arith}
use Rattle.std.proofs.lemmas.List.{append-nil}
use Rattle.bson_doc.specs.Steps.{◌>>=◌, Fails}
use Rattle.bson_doc.specs.declared.value.Document.{Document}
use Rattle.bson_doc.proofs.Steps.{Fails-bind, bind-Ok}
use Rattle.msg_wire.specs.Sections.{Held, closed_at, section_at, sections_at, with_section}
use Rattle.msg_wire.specs.declared.fault.MsgFault.{MsgFault}
use Rattle.msg_wire.specs.declared.fault.MsgFault.TheVariants as fault
use Rattle.msg_wire.specs.declared.section.Section.TheVariants as section
use Rattle.msg_wire.specs.declared.sequence.Sequence.{Sequence}
use Rattle.msg_wire.proofs.SectionLaws.{sections_at-end, sections_at-more}

abbrev pub with_front : List Sequence → Result Held MsgFault → Result Held MsgFault
with_front front read = read >>= (λ x. Ok (x.0, front ++ x.1))

-- What was read so far, and what is read of the rest, is the total.
abbrev pub GoesOn : ℕ → ℕ → Option Document → List Sequence → List ℕ → Result Held MsgFault → Type 0
GoesOn spare end body front rest total = (k : ℕ) × (length rest < k) × (with_front front (sections_at k spare end body rest) ≡ total)

pub begins : (spare end fuel : ℕ) (bytes : List ℕ) → length bytes < fuel → GoesOn spare end None [] bytes (sections_at fuel spare end None bytes)
begins spare end fuel bytes lt = (fuel, lt, bind-Ok (sections_at fuel spare end None bytes))

regroup : (front : List Sequence) (s : Sequence) (read : Result Held MsgFault) → with_front front (read >>= (λ x. Ok (x.0, s ∷ x.1))) ≡ with_front (front ++ s ∷ []) read
regroup front s (Ok x) = ap (λ (qs : List Sequence). Ok (x.0, qs)) (sym (append_assoc front (s ∷ []) x.1))
regroup front s (Err e) = refl

-- the body
pub goes_on_body : (spare end : ℕ) (body : Option Document) (front : List Sequence) (rest after : List ℕ) (d : Document) (total : Result Held MsgFault)
    → spare < length rest → section_at (is_some body) end rest ≡ Ok (section.Body d, after) → length after < length rest → GoesOn spare end body front rest total → GoesOn spare end (Some d) front after total
goes_on_body spare end body front rest after d total lt h less (zero, fits, so_far) = absurd (omega arith)
goes_on_body spare end body front rest after d total lt h less (suc k, fits, so_far) =
    let one_read : with_front front (sections_at (suc k) spare end body rest) ≡ with_front front (sections_at k spare end (Some d) after) = ap (with_front front) (sections_at-more k spare end body rest lt ∙ rw h refl) in
    (k, omega arith, sym one_read ∙ so_far)

-- a section of kind 1
pub goes_on_kind1 : (spare end : ℕ) (body : Option Document) (front : List Sequence) (rest after : List ℕ) (s : Sequence) (total : Result Held MsgFault)
    → spare < length rest → section_at (is_some body) end rest ≡ Ok (section.Sequence s, after) → length after < length rest → GoesOn spare end body front rest total → GoesOn spare end body (front ++ s ∷ []) after total
goes_on_kind1 spare end body front rest after s total lt h less (zero, fits, so_far) = absurd (omega arith)
goes_on_kind1 spare end body front rest after s total lt h less (suc k, fits, so_far) =
    let one_read : with_front front (sections_at (suc k) spare end body rest) ≡ with_front (front ++ s ∷ []) (sections_at k spare end body after) =
    ap (with_front front) (sections_at-more k spare end body rest lt ∙ rw h refl) ∙ regroup front s (sections_at k spare end body after) in
    (k, omega arith, sym one_read ∙ so_far)

-- a fault in the next section
pub stops : (spare end : ℕ) (body : Option Document) (front : List Sequence) (rest : List ℕ) (e : MsgFault) (total : Result Held MsgFault)
    → spare < length rest → Fails fault.Memory e (section_at (is_some body) end rest) → GoesOn spare end body front rest total → Fails fault.Memory e total
stops spare end body front rest e total lt h (zero, fits, so_far) = absurd (omega arith)
stops spare end body front rest e total lt h (suc k, fits, so_far) =
    let one_read : with_front front (section_at (is_some body) end rest >>= with_section (sections_at k spare end) body) ≡ total = ap (with_front front) (sym (sections_at-more k spare end body rest lt)) ∙ so_far in
    subst (Fails fault.Memory e) one_read (Fails-bind fault.Memory e _ (λ x. Ok (x.0, front ++ x.1)) (Fails-bind fault.Memory e _ (with_section (sections_at k spare end) body) h))

-- the end of the sections
pub closes : (spare end : ℕ) (body : Option Document) (front : List Sequence) (rest : List ℕ) (d : Document) (total : Result Held MsgFault)
    → length rest ≤ spare → closed_at spare end (length rest) body ≡ Ok d → GoesOn spare end body front rest total → total ≡ Ok (d, front)
closes spare end body front rest d total le h (zero, fits, so_far) = absurd (omega arith)
closes spare end body front rest d total le h (suc k, fits, so_far) =
    let read : sections_at (suc k) spare end body rest ≡ Ok (d, []) = sections_at-end k spare end body rest le ∙ rw h refl in
    let one_read : with_front front (sections_at (suc k) spare end body rest) ≡ Ok (d, front ++ []) = ap (with_front front) read in
    sym so_far ∙ one_read ∙ ap (λ (qs : List Sequence). Ok (d, qs)) (append-nil front)

-- a fault at the end of the sections
pub does_not_close : (spare end : ℕ) (body : Option Document) (front : List Sequence) (rest : List ℕ) (e : MsgFault) (total : Result Held MsgFault)
    → length rest ≤ spare → Fails fault.Memory e (closed_at spare end (length rest) body) → GoesOn spare end body front rest total → Fails fault.Memory e total
does_not_close spare end body front rest e total le h (zero, fits, so_far) = absurd (omega arith)
does_not_close spare end body front rest e total le h (suc k, fits, so_far) =
    let one_read : with_front front (closed_at spare end (length rest) body >>= (λ document. Ok (document, []))) ≡ total = ap (with_front front) (sym (sections_at-end k spare end body rest le)) ∙ so_far in
    subst (Fails fault.Memory e) one_read (Fails-bind fault.Memory e _ (λ x. Ok (x.0, front ++ x.1)) (Fails-bind fault.Memory e _ (λ document. Ok (document, [])) h))
