-- Values that hold no document: what is read of them is spelled so, and what is spelled so is read, whatever follows.
use Rattle.std.proofs.Common.{◌≡◌, ℕ, zero, suc, Bool, true, false, List, [], ◌∷◌, ◌++◌, Ok, refl, sym, ap, subst, ◌∙◌}
use Rattle.std.specs.Int.{w32, cast_signed}
use Rattle.byteorder.specs.Endian.{little_number}
use Rattle.bson_doc.specs.declared.ids.Oid.{Oid}
use Rattle.bson_doc.specs.declared.value.Document.{Document}
use Rattle.bson_doc.specs.declared.value.Value.{Value, Value-F, out-Value, roll-Value}
use Rattle.bson_doc.specs.declared.value.Value.TheVariants as value
use Rattle.bson_doc.specs.declared.value.Value.TheVariants.{rolls-Double, rolls-Str, rolls-Binary, rolls-Undefined, rolls-Oid, rolls-Bool, rolls-Date, rolls-Null, rolls-Regex, rolls-DbPointer, rolls-Code, rolls-Symbol, rolls-Int32, rolls-Stamp, rolls-Int64, rolls-Decimal, rolls-Max, rolls-Min, outs-Double, outs-Str, outs-Binary, outs-Undefined, outs-Oid, outs-Bool, outs-Date, outs-Null, outs-Regex, outs-DbPointer, outs-Code, outs-Symbol, outs-Int32, outs-Stamp, outs-Int64, outs-Decimal, outs-Max, outs-Min}
use Rattle.bson_doc.specs.declared.value.Value.TheOpen as layer
use Rattle.bson_doc.specs.declared.kind.Kind.TheVariants as kinds
use Rattle.bson_doc.specs.declared.kind.PlainKind.{PlainKind}
use Rattle.bson_doc.specs.declared.kind.PlainKind.TheVariants as plain
use Rattle.bson_doc.specs.wire.Spelling.{IsPayload, truth_byte}
use Rattle.bson_doc.specs.wire.Reading.{bytes_at, string_at, binary_at, regex_at, pointer_at, bool_at, int64_of, plain_at}
use Rattle.bson_doc.proofs.Steps.{ok_is, mapped-Ok}
use Rattle.bson_doc.proofs.wire.Fields.{bytes_take, bytes_again, string_takes, string_again, binary_takes, binary_again, regex_takes, regex_again, pointer_takes, pointer_again}

-- what was taken for a value of a plain kind
pub record TakesPlain (Inner : List ℕ → Document → Type 0) (kind : PlainKind) (bytes : List ℕ) (v : Value) (rest : List ℕ) : Type 0 where
  pub payload : List ℕ
  pub parts : bytes ≡ payload ++ rest
  pub is : IsPayload Inner (kinds.Plain kind) payload (out-Value v)

bool_takes : (Inner : List ℕ → Document → Type 0) (start end : ℕ) (bytes : List ℕ) (x : Value × List ℕ) → bool_at start end bytes ≡ Ok x → TakesPlain Inner plain.Bool bytes x.0 x.1
unfolding bool_at
bool_takes Inner start end [] x e = absurd cc
bool_takes Inner start end (zero ∷ rest) x e =
    subst (λ (y : Value × List ℕ). TakesPlain Inner plain.Bool (0 ∷ rest) y.0 y.1) (ok_is _ x e) (record { payload = 0 ∷ []; parts = refl; is = rw (outs-Bool false) (refl, refl) })
bool_takes Inner start end (suc zero ∷ rest) x e =
    subst (λ (y : Value × List ℕ). TakesPlain Inner plain.Bool (1 ∷ rest) y.0 y.1) (ok_is _ x e) (record { payload = 1 ∷ []; parts = refl; is = rw (outs-Bool true) (refl, refl) })
bool_takes Inner start end (suc (suc b) ∷ rest) x e = absurd cc

abbrev oid : List ℕ → Oid
oid bytes = record { 0 = bytes }

pub plain_takes : (Inner : List ℕ → Document → Type 0) (start end : ℕ) (kind : PlainKind) (bytes : List ℕ) (x : Value × List ℕ) → plain_at start end kind bytes ≡ Ok x → TakesPlain Inner kind bytes x.0 x.1
unfolding plain_at
plain_takes Inner start end plain.Double bytes x e =
    let m = mapped-Ok (λ y. (value.Double y.0, y.1)) (bytes_at start 8 bytes) x e in
    let t = bytes_take start 8 bytes m.0 m.1 in
    subst (λ (y : Value × List ℕ). TakesPlain Inner plain.Double bytes y.0 y.1) m.2 (record { payload = m.0.0; parts = t.0; is = rw (outs-Double m.0.0) (refl, t.1, refl) })
plain_takes Inner start end plain.Str bytes x e =
    let m = mapped-Ok (λ y. (value.Str y.0, y.1)) (string_at end bytes) x e in
    let t = string_takes end bytes m.0 m.1 in
    subst (λ (y : Value × List ℕ). TakesPlain Inner plain.Str bytes y.0 y.1) m.2 (record { payload = t.spelling; parts = t.parts; is = rw (outs-Str m.0.0) (refl, t.is) })
plain_takes Inner start end plain.Binary bytes x e =
    let m = mapped-Ok (λ y. (value.Binary y.0.0 y.0.1, y.1)) (binary_at end bytes) x e in
    let t = binary_takes end bytes m.0 m.1 in
    subst (λ (y : Value × List ℕ). TakesPlain Inner plain.Binary bytes y.0 y.1) m.2 (record { payload = t.spelling; parts = t.parts; is = rw (outs-Binary m.0.0.0 m.0.0.1) (refl, t.is) })
plain_takes Inner start end plain.Undefined bytes x e =
    subst (λ (y : Value × List ℕ). TakesPlain Inner plain.Undefined bytes y.0 y.1) (ok_is _ x e) (record { payload = []; parts = refl; is = rw outs-Undefined (refl, refl) })
plain_takes Inner start end plain.Oid bytes x e =
    let m = mapped-Ok (λ y. (value.Oid (oid y.0), y.1)) (bytes_at start 12 bytes) x e in
    let t = bytes_take start 12 bytes m.0 m.1 in
    subst (λ (y : Value × List ℕ). TakesPlain Inner plain.Oid bytes y.0 y.1) m.2 (record { payload = m.0.0; parts = t.0; is = rw (outs-Oid (oid m.0.0)) (refl, t.1, refl) })
plain_takes Inner start end plain.Bool bytes x e = bool_takes Inner start end bytes x e
plain_takes Inner start end plain.Date bytes x e =
    let m = mapped-Ok (λ y. (value.Date (int64_of y.0), y.1)) (bytes_at start 8 bytes) x e in
    let t = bytes_take start 8 bytes m.0 m.1 in
    subst (λ (y : Value × List ℕ). TakesPlain Inner plain.Date bytes y.0 y.1) m.2 (record { payload = m.0.0; parts = t.0; is = rw (outs-Date (int64_of m.0.0)) (refl, t.1, refl) })
plain_takes Inner start end plain.Null bytes x e =
    subst (λ (y : Value × List ℕ). TakesPlain Inner plain.Null bytes y.0 y.1) (ok_is _ x e) (record { payload = []; parts = refl; is = rw outs-Null (refl, refl) })
plain_takes Inner start end plain.Regex bytes x e =
    let m = mapped-Ok (λ y. (value.Regex y.0.0 y.0.1, y.1)) (regex_at start end bytes) x e in
    let t = regex_takes start end bytes m.0 m.1 in
    subst (λ (y : Value × List ℕ). TakesPlain Inner plain.Regex bytes y.0 y.1) m.2 (record { payload = t.spelling; parts = t.parts; is = rw (outs-Regex m.0.0.0 m.0.0.1) (refl, t.is) })
plain_takes Inner start end plain.DbPointer bytes x e =
    let m = mapped-Ok (λ y. (value.DbPointer y.0.0 (oid y.0.1), y.1)) (pointer_at start end bytes) x e in
    let t = pointer_takes start end bytes m.0 m.1 in
    subst (λ (y : Value × List ℕ). TakesPlain Inner plain.DbPointer bytes y.0 y.1) m.2 (record { payload = t.spelling; parts = t.parts; is = rw (outs-DbPointer m.0.0.0 (oid m.0.0.1)) (refl, t.is) })
plain_takes Inner start end plain.Code bytes x e =
    let m = mapped-Ok (λ y. (value.Code y.0, y.1)) (string_at end bytes) x e in
    let t = string_takes end bytes m.0 m.1 in
    subst (λ (y : Value × List ℕ). TakesPlain Inner plain.Code bytes y.0 y.1) m.2 (record { payload = t.spelling; parts = t.parts; is = rw (outs-Code m.0.0) (refl, t.is) })
plain_takes Inner start end plain.Symbol bytes x e =
    let m = mapped-Ok (λ y. (value.Symbol y.0, y.1)) (string_at end bytes) x e in
    let t = string_takes end bytes m.0 m.1 in
    subst (λ (y : Value × List ℕ). TakesPlain Inner plain.Symbol bytes y.0 y.1) m.2 (record { payload = t.spelling; parts = t.parts; is = rw (outs-Symbol m.0.0) (refl, t.is) })
plain_takes Inner start end plain.Int32 bytes x e =
    let m = mapped-Ok (λ y. (value.Int32 (cast_signed w32 (little_number 4 y.0)), y.1)) (bytes_at start 4 bytes) x e in
    let t = bytes_take start 4 bytes m.0 m.1 in
    subst (λ (y : Value × List ℕ). TakesPlain Inner plain.Int32 bytes y.0 y.1) m.2 (record { payload = m.0.0; parts = t.0; is = rw (outs-Int32 (cast_signed w32 (little_number 4 m.0.0))) (refl, t.1, refl) })
plain_takes Inner start end plain.Stamp bytes x e =
    let m = mapped-Ok (λ y. (value.Stamp (little_number 8 y.0), y.1)) (bytes_at start 8 bytes) x e in
    let t = bytes_take start 8 bytes m.0 m.1 in
    subst (λ (y : Value × List ℕ). TakesPlain Inner plain.Stamp bytes y.0 y.1) m.2 (record { payload = m.0.0; parts = t.0; is = rw (outs-Stamp (little_number 8 m.0.0)) (refl, t.1, refl) })
plain_takes Inner start end plain.Int64 bytes x e =
    let m = mapped-Ok (λ y. (value.Int64 (int64_of y.0), y.1)) (bytes_at start 8 bytes) x e in
    let t = bytes_take start 8 bytes m.0 m.1 in
    subst (λ (y : Value × List ℕ). TakesPlain Inner plain.Int64 bytes y.0 y.1) m.2 (record { payload = m.0.0; parts = t.0; is = rw (outs-Int64 (int64_of m.0.0)) (refl, t.1, refl) })
plain_takes Inner start end plain.Decimal bytes x e =
    let m = mapped-Ok (λ y. (value.Decimal y.0, y.1)) (bytes_at start 16 bytes) x e in
    let t = bytes_take start 16 bytes m.0 m.1 in
    subst (λ (y : Value × List ℕ). TakesPlain Inner plain.Decimal bytes y.0 y.1) m.2 (record { payload = m.0.0; parts = t.0; is = rw (outs-Decimal m.0.0) (refl, t.1, refl) })
plain_takes Inner start end plain.Max bytes x e =
    subst (λ (y : Value × List ℕ). TakesPlain Inner plain.Max bytes y.0 y.1) (ok_is _ x e) (record { payload = []; parts = refl; is = rw outs-Max (refl, refl) })
plain_takes Inner start end plain.Min bytes x e =
    subst (λ (y : Value × List ℕ). TakesPlain Inner plain.Min bytes y.0 y.1) (ok_is _ x e) (record { payload = []; parts = refl; is = rw outs-Min (refl, refl) })

bool_again : (start end : ℕ) (b : Bool) (rest : List ℕ) → bool_at start end (truth_byte b ∷ rest) ≡ Ok (value.Bool b, rest)
unfolding bool_at
bool_again start end true rest = refl
bool_again start end false rest = refl

same_plain : (a b : PlainKind) → kinds.Plain a ≡ kinds.Plain b → a ≡ b
same_plain a b e = cc

pub plain_again : (Inner : List ℕ → Document → Type 0) (start end : ℕ) (kind : PlainKind) (payload rest : List ℕ) (v : Value) (w : Value-F Value Document) → roll-Value w ≡ v → IsPayload Inner (kinds.Plain kind) payload w → plain_at start end kind (payload ++ rest) ≡ Ok (v, rest)
unfolding plain_at
plain_again Inner start end kind payload rest v (layer.Double raw) e h =
    let made : value.Double raw ≡ v = sym (rolls-Double raw) ∙ e in
    rw (same_plain kind plain.Double h.0, bytes_again start 8 payload rest h.1, h.2) (ap (λ (u : Value). Ok (u, rest)) made)
plain_again Inner start end kind payload rest v (layer.Str text) e h =
    let made : value.Str text ≡ v = sym (rolls-Str text) ∙ e in
    rw (same_plain kind plain.Str h.0, string_again end payload text rest h.1) (ap (λ (u : Value). Ok (u, rest)) made)
plain_again Inner start end kind payload rest v (layer.Doc d) e h = absurd cc
plain_again Inner start end kind payload rest v (layer.Array items) e h = absurd cc
plain_again Inner start end kind payload rest v (layer.Binary subtype held) e h =
    let made : value.Binary subtype held ≡ v = sym (rolls-Binary subtype held) ∙ e in
    rw (same_plain kind plain.Binary h.0, binary_again end payload subtype held rest h.1) (ap (λ (u : Value). Ok (u, rest)) made)
plain_again Inner start end kind payload rest v layer.Undefined e h =
    let made : value.Undefined ≡ v = sym rolls-Undefined ∙ e in
    rw (same_plain kind plain.Undefined h.0, h.1) (ap (λ (u : Value). Ok (u, rest)) made)
plain_again Inner start end kind payload rest v (layer.Oid id) e h =
    let made : value.Oid id ≡ v = sym (rolls-Oid id) ∙ e in
    rw (same_plain kind plain.Oid h.0, bytes_again start 12 payload rest h.1, h.2) (ap (λ (u : Value). Ok (u, rest)) made)
plain_again Inner start end kind payload rest v (layer.Bool b) e h =
    let made : value.Bool b ≡ v = sym (rolls-Bool b) ∙ e in
    rw (same_plain kind plain.Bool h.0, h.1) (bool_again start end b rest ∙ ap (λ (u : Value). Ok (u, rest)) made)
plain_again Inner start end kind payload rest v (layer.Date n) e h =
    let made : value.Date n ≡ v = sym (rolls-Date n) ∙ e in
    rw (same_plain kind plain.Date h.0, bytes_again start 8 payload rest h.1, h.2) (ap (λ (u : Value). Ok (u, rest)) made)
plain_again Inner start end kind payload rest v layer.Null e h =
    let made : value.Null ≡ v = sym rolls-Null ∙ e in
    rw (same_plain kind plain.Null h.0, h.1) (ap (λ (u : Value). Ok (u, rest)) made)
plain_again Inner start end kind payload rest v (layer.Regex pattern options) e h =
    let made : value.Regex pattern options ≡ v = sym (rolls-Regex pattern options) ∙ e in
    rw (same_plain kind plain.Regex h.0, regex_again start end payload pattern options rest h.1) (ap (λ (u : Value). Ok (u, rest)) made)
plain_again Inner start end kind payload rest v (layer.DbPointer space id) e h =
    let made : value.DbPointer space id ≡ v = sym (rolls-DbPointer space id) ∙ e in
    rw (same_plain kind plain.DbPointer h.0, pointer_again start end payload space id.0 rest h.1) (ap (λ (u : Value). Ok (u, rest)) made)
plain_again Inner start end kind payload rest v (layer.Code text) e h =
    let made : value.Code text ≡ v = sym (rolls-Code text) ∙ e in
    rw (same_plain kind plain.Code h.0, string_again end payload text rest h.1) (ap (λ (u : Value). Ok (u, rest)) made)
plain_again Inner start end kind payload rest v (layer.Symbol text) e h =
    let made : value.Symbol text ≡ v = sym (rolls-Symbol text) ∙ e in
    rw (same_plain kind plain.Symbol h.0, string_again end payload text rest h.1) (ap (λ (u : Value). Ok (u, rest)) made)
plain_again Inner start end kind payload rest v (layer.Scope code d) e h = absurd cc
plain_again Inner start end kind payload rest v (layer.Int32 n) e h =
    let made : value.Int32 n ≡ v = sym (rolls-Int32 n) ∙ e in
    rw (same_plain kind plain.Int32 h.0, bytes_again start 4 payload rest h.1, h.2) (ap (λ (u : Value). Ok (u, rest)) made)
plain_again Inner start end kind payload rest v (layer.Stamp n) e h =
    let made : value.Stamp n ≡ v = sym (rolls-Stamp n) ∙ e in
    rw (same_plain kind plain.Stamp h.0, bytes_again start 8 payload rest h.1, h.2) (ap (λ (u : Value). Ok (u, rest)) made)
plain_again Inner start end kind payload rest v (layer.Int64 n) e h =
    let made : value.Int64 n ≡ v = sym (rolls-Int64 n) ∙ e in
    rw (same_plain kind plain.Int64 h.0, bytes_again start 8 payload rest h.1, h.2) (ap (λ (u : Value). Ok (u, rest)) made)
plain_again Inner start end kind payload rest v (layer.Decimal raw) e h =
    let made : value.Decimal raw ≡ v = sym (rolls-Decimal raw) ∙ e in
    rw (same_plain kind plain.Decimal h.0, bytes_again start 16 payload rest h.1, h.2) (ap (λ (u : Value). Ok (u, rest)) made)
plain_again Inner start end kind payload rest v layer.Max e h =
    let made : value.Max ≡ v = sym rolls-Max ∙ e in
    rw (same_plain kind plain.Max h.0, h.1) (ap (λ (u : Value). Ok (u, rest)) made)
plain_again Inner start end kind payload rest v layer.Min e h =
    let made : value.Min ≡ v = sym rolls-Min ∙ e in
    rw (same_plain kind plain.Min h.0, h.1) (ap (λ (u : Value). Ok (u, rest)) made)
