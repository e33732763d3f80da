-- Keys, writes and replies at values worked out by hand.
use Rattle.std.proofs.Common.{◌≡◌, ℕ, true, false, List, [], ◌∷◌, Option, Some, pos, codes, refl, ap}
use Rattle.std.specs.Option.{option_and_then}
use Rattle.bson_doc.specs.Readings.{document_in, document_of}
use Rattle.cmd_outcome.specs.Replies.{field}
use Rattle.bson_doc.specs.declared.ids.Lsid.{Lsid}
use Rattle.bson_doc.specs.declared.value.Document.{Document}
use Rattle.bson_doc.specs.declared.value.Value.{Doc}
use Rattle.bson_doc.specs.declared.value.Value as whole
use Rattle.bson_doc.specs.declared.value.Value.TheVariants as value
use Rattle.bson_doc.specs.declared.value.Value.TheVariants.{outs-Doc}
use Rattle.member_core.specs.Honest.{says_ok}
use Rattle.member_core.specs.Keys.{id_from, is_write, key_from, key_of}
use Rattle.member_core.specs.Replies.{election_id, process_id, refusal, write_result}
use Rattle.member_core.specs.declared.key.Key.TheVariants.{Numbered, Placed}

abbrev uuid : List ℕ
uuid = 0 ∷ 1 ∷ 2 ∷ 3 ∷ 4 ∷ 5 ∷ 6 ∷ 7 ∷ 8 ∷ 9 ∷ 10 ∷ 11 ∷ 12 ∷ 13 ∷ 14 ∷ 15 ∷ []

abbrev session_of : ℕ → List ℕ → Document
session_of subtype bytes = record { elements = (codes "id", value.Binary subtype bytes) ∷ [] }

abbrev id_in : Option Document → Option Lsid
id_in o = option_and_then (λ lsid. option_and_then id_from (field (codes "id") lsid)) o

abbrev insert_with : Document → Document
insert_with session = record {
  elements =
      (codes "insert", value.Str (codes "people"))
      ∷ (codes "lsid", Doc session)
      ∷ (codes "txnNumber", value.Int64 (pos 3))
      ∷ [];
}

-- What is read of a document inside is that document.
inside : (d : Document) → document_of (Doc d) ≡ Some d
inside d = ap document_in (outs-Doc d)

-- With a session's id and a number, the two are the key.
numbered : key_of (insert_with (session_of 4 uuid)) 5 6 ≡ Numbered (record { 0 = uuid }) (pos 3)
numbered = ap (λ o. key_from (id_in o) (Some (pos 3)) 5 6) (inside (session_of 4 uuid))

-- A binary of another subtype is no id, and one of another size is none.
other_subtype : key_of (insert_with (session_of 3 uuid)) 5 6 ≡ Placed 5 6
other_subtype = ap (λ o. key_from (id_in o) (Some (pos 3)) 5 6) (inside (session_of 3 uuid))

short_id : key_of (insert_with (session_of 4 (1 ∷ []))) 5 6 ≡ Placed 5 6
short_id = ap (λ o. key_from (id_in o) (Some (pos 3)) 5 6) (inside (session_of 4 (1 ∷ [])))

-- Nor is a number alone a key.
no_session : key_of (record { elements = (codes "insert", value.Str (codes "people")) ∷ (codes "txnNumber", value.Int64 (pos 3)) ∷ [] }) 5 6 ≡ Placed 5 6
no_session = refl

-- Which commands write is told by the first name.
writes : is_write (insert_with (session_of 4 uuid)) ≡ true
writes = refl

finds : is_write (record { elements = (codes "find", value.Str (codes "people")) ∷ (codes "insert", value.Str (codes "people")) ∷ [] }) ≡ false
finds = refl

empty : is_write (record { elements = [] }) ≡ false
empty = refl

-- What replies say.
plain_says_ok : says_ok (write_result true true) ≡ true
plain_says_ok = refl

concern_is_not_ok : says_ok (write_result true false) ≡ false
unfolding whole.out-Value denote.Hole.Carrier.out
concern_is_not_ok = refl

refusal_is_not_ok : says_ok refusal ≡ false
refusal_is_not_ok = refl

-- The ids of an election and of a member's process.
first_election : election_id 1 ≡ record { 0 = 0x7f ∷ 0xff ∷ 0xff ∷ 0xff ∷ 0 ∷ 0 ∷ 0 ∷ 0 ∷ 0 ∷ 0 ∷ 0 ∷ 1 ∷ [] }
first_election = refl

third_member : process_id 258 ≡ record { 0 = 0 ∷ 0 ∷ 0 ∷ 0 ∷ 0 ∷ 0 ∷ 0 ∷ 0 ∷ 0 ∷ 0 ∷ 1 ∷ 2 ∷ [] }
third_member = refl
