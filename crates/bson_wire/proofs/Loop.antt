-- Reading elements one after the other, as a loop does.
use Rattle.std.proofs.Common.{◌≡◌, ℕ, zero, suc, ◌+◌, ◌-◌, ◌<◌, ◌≤◌, List, [], ◌∷◌, ◌++◌, length, get_or, take, drop, Result, Ok, Err, refl, sym, ap, subst, ◌∙◌, append_assoc, arith}
use Rattle.std.proofs.lemmas.List.{append-nil, take_all, nil_from_length}
use Rattle.bson_doc.specs.declared.name.Name.{Name}
use Rattle.bson_doc.specs.declared.value.Document.{Document}
use Rattle.bson_doc.specs.declared.value.Value.{Value}
use Rattle.bson_doc.specs.declared.bson_fault.BsonFault.{BsonFault}
use Rattle.bson_doc.specs.Steps.{◌>>=◌, Fails}
use Rattle.bson_doc.specs.declared.bson_fault.BsonFault.TheVariants as fault
use Rattle.bson_doc.specs.wire.Spelling.{values}
use Rattle.bson_doc.specs.wire.Reading.{Read, behind_zero, element_at, elements_at, body_at, unnamed_element, unnamed_elements, unnamed_document}
use Rattle.bson_doc.proofs.Steps.{Fails-bind, Fails-mapped, mapped-Ok}
use Rattle.bson_doc.proofs.wire.Documents.{document_of}

abbrev pub Element : Type 0
Element = Name × Value

abbrev unnamed : Element × List ℕ → Value × List ℕ
unnamed x = (x.0.1, x.1)

-- the items of a loop: the elements, or their values
pub record IsView {X : Type 0} (view : List Element → List X) (one : Element → X) : Type 0 where
  pub none : view [] ≡ []
  pub more : (e : Element) (es : List Element) → view (e ∷ es) ≡ one e ∷ view es

pub elements_view : IsView (λ es. es) (λ e. e)
elements_view = record { none = refl; more = λ e es. refl }

pub values_view : IsView values (λ e. e.1)
values_view = record { none = refl; more = λ e es. refl }

abbrev pub with_front : {X : Type 0} → (List Element → List X) → List X → Result (List Element) BsonFault → Result (List X) BsonFault
with_front view front read = read >>= (λ es. Ok (front ++ view es))

-- What was read so far, and what is read of the rest, is the total.
abbrev pub GoesOn : {X : Type 0} → (List Element → List X) → (ℕ → List ℕ → Read Document) → ℕ → ℕ → List X → List ℕ → Result (List X) BsonFault → Type 0
GoesOn view R start end front rest total = (k : ℕ) × (length rest ≤ k) × (with_front view front (elements_at R k start end rest) ≡ total)

regroup : {X : Type 0} (view : List Element → List X) (one : Element → X) → IsView view one → (front : List X) (e : Element) (read : Result (List Element) BsonFault)
    → with_front view front (read >>= (λ es. Ok (e ∷ es))) ≡ with_front view (front ++ one e ∷ []) read
regroup {X = X} view one is front e (Ok es) = ap (λ (xs : List X). Ok (front ++ xs)) (is.more e es) ∙ ap (λ (xs : List X). Ok xs) (sym (append_assoc front (one e ∷ []) (view es)))
regroup {X = X} view one is front e (Err d) = refl

-- one element more
step : {X : Type 0} (view : List Element → List X) (one : Element → X) → IsView view one → (R : ℕ → List ℕ → Read Document) (start end : ℕ) (front : List X) (byte : ℕ) (behind after : List ℕ) (e : Element) (total : Result (List X) BsonFault)
    → element_at R start end byte behind ≡ Ok (e, after) → length after ≤ length behind → GoesOn view R start end front (byte ∷ behind) total → GoesOn view R start end (front ++ one e ∷ []) after total
unfolding elements_at
step {X = X} view one is R start end front byte behind after e total h le (zero, fits, so_far) = absurd (omega arith)
step {X = X} view one is R start end front byte behind after e total h le (suc k, fits, so_far) =
    let one_read : with_front view front (elements_at R (suc k) start end (byte ∷ behind)) ≡ with_front view (front ++ one e ∷ []) (elements_at R k start end after) =
    rw h (regroup {X = X} view one is front e (elements_at R k start end after)) in
    (k, omega arith, sym one_read ∙ so_far)

-- a fault in the next element
stop : {X : Type 0} (view : List Element → List X) (R : ℕ → List ℕ → Read Document) (start end : ℕ) (front : List X) (byte : ℕ) (behind : List ℕ) (e : BsonFault) (total : Result (List X) BsonFault)
    → Fails fault.Memory e (element_at R start end byte behind) → GoesOn view R start end front (byte ∷ behind) total → Fails fault.Memory e total
unfolding elements_at
stop view R start end front byte behind e total h (zero, fits, so_far) = absurd (omega arith)
stop view R start end front byte behind e total h (suc k, fits, so_far) =
    subst (Fails fault.Memory e) so_far (Fails-bind fault.Memory e _ (λ es. Ok (front ++ view es)) (Fails-bind fault.Memory e _ (λ first. elements_at R k start end first.1 >>= (λ others. Ok (first.0 ∷ others))) h))

-- the end of the bytes
ended : {X : Type 0} (view : List Element → List X) (one : Element → X) → IsView view one → (R : ℕ → List ℕ → Read Document) (start end : ℕ) (front : List X) (total : Result (List X) BsonFault)
    → GoesOn view R start end front [] total → total ≡ Ok front
unfolding elements_at
ended {X = X} view one is R start end front total (k, fits, so_far) =
    sym so_far ∙ ap (λ (xs : List X). Ok xs) (ap (λ (xs : List X). front ++ xs) is.none ∙ append-nil front)

-- the first byte, and the bytes behind it
parted : (rest : List ℕ) → 0 < length rest → rest ≡ get_or rest 0 0 ∷ take (length rest - 1) (drop 1 rest)
parted [] h = absurd (omega arith)
parted (b ∷ bs) h = ap (λ (xs : List ℕ). b ∷ xs) (sym (take_all (length (b ∷ bs) - 1) bs (omega arith)))

pub goes_on : {X : Type 0} (view : List Element → List X) (one : Element → X) → IsView view one → (R : ℕ → List ℕ → Read Document) (start end : ℕ) (front : List X) (rest after : List ℕ) (e : Element) (total : Result (List X) BsonFault)
    → 1 ≤ length rest → element_at R start end (get_or rest 0 0) (take (length rest - 1) (drop 1 rest)) ≡ Ok (e, after) → length after ≤ length (take (length rest - 1) (drop 1 rest))
    → GoesOn view R start end front rest total → GoesOn view R start end (front ++ one e ∷ []) after total
goes_on view one is R start end front rest after e total lt h le so_far =
    step view one is R start end front _ _ after e total h le (subst (λ (xs : List ℕ). GoesOn view R start end front xs total) (parted rest (omega arith)) so_far)

-- the same of an array, whose values alone are kept
pub goes_on_item : (R : ℕ → List ℕ → Read Document) (start end : ℕ) (front : List Value) (rest after : List ℕ) (v : Value) (total : Result (List Value) BsonFault)
    → 1 ≤ length rest → unnamed_element (element_at R start end (get_or rest 0 0) (take (length rest - 1) (drop 1 rest))) ≡ Ok (v, after) → length after ≤ length (take (length rest - 1) (drop 1 rest))
    → GoesOn values R start end front rest total → GoesOn values R start end (front ++ v ∷ []) after total
goes_on_item R start end front rest after v total lt h le so_far =
    let m = mapped-Ok unnamed (element_at R start end (get_or rest 0 0) (take (length rest - 1) (drop 1 rest))) (v, after) h in
    let behind : m.0.1 ≡ after = ap (λ (p : Value × List ℕ). p.1) m.2 in
    let same : m.0.0.1 ≡ v = ap (λ (p : Value × List ℕ). p.0) m.2 in
    let read : element_at R start end (get_or rest 0 0) (take (length rest - 1) (drop 1 rest)) ≡ Ok (m.0.0, after) = m.1 ∙ ap (λ (xs : List ℕ). Ok (m.0.0, xs)) behind in
    subst (λ (w : Value). GoesOn values R start end (front ++ w ∷ []) after total) same (goes_on values (λ e. e.1) values_view R start end front rest after m.0.0 total lt read le so_far)

pub stops : {X : Type 0} (view : List Element → List X) (R : ℕ → List ℕ → Read Document) (start end : ℕ) (front : List X) (rest : List ℕ) (e : BsonFault) (total : Result (List X) BsonFault)
    → 1 ≤ length rest → Fails fault.Memory e (element_at R start end (get_or rest 0 0) (take (length rest - 1) (drop 1 rest))) → GoesOn view R start end front rest total → Fails fault.Memory e total
stops view R start end front rest e total lt h so_far =
    stop view R start end front _ _ e total h (subst (λ (xs : List ℕ). GoesOn view R start end front xs total) (parted rest (omega arith)) so_far)

-- the same of an array, whose values alone are kept
pub stops_item : (R : ℕ → List ℕ → Read Document) (start end : ℕ) (front : List Value) (rest : List ℕ) (e : BsonFault) (total : Result (List Value) BsonFault)
    → 1 ≤ length rest → Fails fault.Memory e (unnamed_element (element_at R start end (get_or rest 0 0) (take (length rest - 1) (drop 1 rest)))) → GoesOn values R start end front rest total → Fails fault.Memory e total
stops_item R start end front rest e total lt h so_far =
    stops values R start end front rest e total lt (Fails-mapped unnamed fault.Memory e _ h) so_far

pub is_done : {X : Type 0} (view : List Element → List X) (one : Element → X) → IsView view one → (R : ℕ → List ℕ → Read Document) (start end : ℕ) (front : List X) (rest : List ℕ) (total : Result (List X) BsonFault)
    → length rest < 1 → GoesOn view R start end front rest total → total ≡ Ok front
is_done view one is R start end front rest total lt so_far =
    ended view one is R start end front total (subst (λ (xs : List ℕ). GoesOn view R start end front xs total) (nil_from_length rest (omega arith)) so_far)

-- an array's body, by its elements and its end
pub unnamed_body-elements : (R : ℕ → List ℕ → Read Document) (start n : ℕ) (bytes : List ℕ) (e : BsonFault)
    → Fails fault.Memory e (unnamed_elements (elements_at R n start (start + n - 1) (take (n - 5) bytes))) → Fails fault.Memory e (unnamed_document (body_at R start n bytes))
unfolding body_at
unnamed_body-elements R start n bytes e h =
    Fails-bind fault.Memory e _ (λ x. Ok (values x.0.elements, x.1)) (Fails-bind fault.Memory e _ (λ es. behind_zero start (drop (n - 5) bytes) >>= (λ rest. Ok (document_of es, rest))) (Fails-mapped values fault.Memory e _ h))

pub unnamed_body-end : (R : ℕ → List ℕ → Read Document) (start n : ℕ) (bytes : List ℕ) (items : List Value) (e : BsonFault)
    → unnamed_elements (elements_at R n start (start + n - 1) (take (n - 5) bytes)) ≡ Ok items → Fails fault.Memory e (behind_zero start (drop (n - 5) bytes)) → Fails fault.Memory e (unnamed_document (body_at R start n bytes))
unfolding body_at
unnamed_body-end R start n bytes items e h no_end =
    let m = mapped-Ok values (elements_at R n start (start + n - 1) (take (n - 5) bytes)) items h in
    rw m.1 (Fails-bind fault.Memory e _ (λ x. Ok (values x.0.elements, x.1)) (Fails-bind fault.Memory e _ (λ rest. Ok (document_of m.0, rest)) no_end))

pub unnamed_body-Ok : (R : ℕ → List ℕ → Read Document) (start n : ℕ) (bytes : List ℕ) (items : List Value) (rest : List ℕ)
    → unnamed_elements (elements_at R n start (start + n - 1) (take (n - 5) bytes)) ≡ Ok items → behind_zero start (drop (n - 5) bytes) ≡ Ok rest → unnamed_document (body_at R start n bytes) ≡ Ok (items, rest)
unfolding body_at
unnamed_body-Ok R start n bytes items rest h at_end =
    let m = mapped-Ok values (elements_at R n start (start + n - 1) (take (n - 5) bytes)) items h in
    rw (m.1, at_end) (ap (λ (vs : List Value). Ok (vs, rest)) m.2)
