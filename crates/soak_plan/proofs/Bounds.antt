-- The commands of a soak are few enough for a script, and their documents lie not deep.
use Rattle.std.proofs.Common.{◌≡◌, ◌≤◌, ◌==◌, ◌%◌, ◌+◌, ℕ, zero, suc, max, Bool, true, false, if◌then◌else◌, List, [], ◌∷◌, length, pos, refl, ap, ◌∙◌, arith}
use Rattle.std.specs.Prelude.{codes}
use Rattle.std.specs.List.{All}
use Rattle.std.proofs.lemmas.List.{length-append}
use Rattle.std.proofs.lemmas.List.Elements.{All-cons, All-nil, All-push}
use Rattle.bson_doc.specs.Documents.{depth_inside, depth_of, value_step, document_step}
use Rattle.bson_doc.specs.declared.value.Document.{Document, fold_out-Document}
use Rattle.bson_doc.specs.declared.value.Value.{Value, fold_out-Value, map-Value}
use Rattle.bson_doc.specs.declared.value.Value.TheVariants as value
use Rattle.bson_doc.specs.declared.value.Value.TheVariants.{outs-Doc, outs-Int32}
use Rattle.cmd_build.specs.Sizes.{IsWithin}
use Rattle.cmd_build.specs.declared.command.Act.{Act}
use Rattle.cmd_build.specs.declared.command.Command.{Command}
use Rattle.script_text.specs.Bounds.{IsBounded}
use Rattle.soak_plan.specs.Commands.{act_by, command_of, commands_of, id_of, set_of}

abbrev Fits : Document → Type 0
Fits d = depth_of d ≤ 90

abbrev Shallow : Command → Type 0
Shallow c = IsWithin 90 c.act

-- ---- depths

depth_inside-Int32 : (n : ℕ) → depth_inside (value.Int32 (pos n)) ≡ 0
depth_inside-Int32 n =
    fold_out-Value ℕ ℕ value_step document_step (value.Int32 (pos n)) ∙ ap (λ w. value_step (map-Value Value Document ℕ ℕ depth_inside depth_of w)) (outs-Int32 (pos n))

depth_inside-Doc : (d : Document) → depth_inside (value.Doc d) ≡ depth_of d
depth_inside-Doc d =
    fold_out-Value ℕ ℕ value_step document_step (value.Doc d) ∙ ap (λ w. value_step (map-Value Value Document ℕ ℕ depth_inside depth_of w)) (outs-Doc d)

depth-one : (name : List ℕ) (v : Value) → depth_of (record { elements = (name, v) ∷ [] }) ≡ 1 + max (depth_inside v) 0
depth-one name v = fold_out-Document ℕ ℕ value_step document_step (record { elements = (name, v) ∷ [] })

id-fits : (k : ℕ) → Fits (id_of k)
id-fits k = omega (arith, depth-one (codes "_id") (value.Int32 (pos k)), depth_inside-Int32 k)

set-fits : (k : ℕ) → Fits (set_of k)
set-fits k =
    let inner = depth-one (codes "v") (value.Int32 (pos k)) in
    let outer = depth-one (codes "$set") (value.Doc (record { elements = (codes "v", value.Int32 (pos k)) ∷ [] })) in
    omega (arith, inner, outer, depth_inside-Doc (record { elements = (codes "v", value.Int32 (pos k)) ∷ [] }), depth_inside-Int32 k)

-- ---- commands

one-fits : (d : Document) → Fits d → All Fits (d ∷ [])
one-fits d h = All-cons Fits d [] h (All-nil Fits)

two-fit : (d e : Document) → Fits d → Fits e → All Fits (d ∷ e ∷ [])
two-fit d e h i = All-cons Fits d (e ∷ []) h (one-fits e i)

choice-shallow : (a b : Act) (t : Bool) → IsWithin 90 a → IsWithin 90 b → IsWithin 90 (if t then a else b)
choice-shallow a b true h i = h
choice-shallow a b false h i = i

act-shallow : (r k : ℕ) → IsWithin 90 (act_by r k)
act-shallow r k =
    choice-shallow _ _ (r == 0) (one-fits (id_of k) (id-fits k))
    (choice-shallow _ _ (r == 1) (two-fit (id_of k) (set_of k) (id-fits k) (set-fits k))
    (choice-shallow _ _ (r == 2) (one-fits (id_of k) (id-fits k)) (one-fits (id_of k) (id-fits k))))

commands-shallow : (n : ℕ) → All Shallow (commands_of n)
commands-shallow zero = All-nil Shallow
commands-shallow (suc n) = All-push Shallow (commands_of n) (command_of n) (commands-shallow n) (act-shallow (n % 4) n)

commands-few : (n : ℕ) → length (commands_of n) ≡ n
commands-few zero = refl
commands-few (suc n) = omega (arith, length-append (commands_of n) (command_of n ∷ []), commands-few n)

pub commands-bounded : (n : ℕ) → n ≤ 100000 → IsBounded (commands_of n)
commands-bounded n h = record { few = omega (arith, commands-few n); shallow = commands-shallow n }
