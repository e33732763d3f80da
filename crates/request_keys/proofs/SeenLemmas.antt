-- Each request is one message, and a write where its command may change data.
use Rattle.std.proofs.Common.{◌≡◌, ℕ, pos, Bool, false, List, [], ◌∷◌, Option, Some, refl, sym, ap, ◌∙◌, subst}
use Rattle.std.specs.Prelude.{slice_get}
use Rattle.std.specs.Option.{option_map_or}
use Rattle.entry_judge.specs.LegalLaws.{Legal-rest}
use Rattle.entry_judge.specs.declared.timed.Timed.{Timed}
use Rattle.bson_doc.specs.declared.cluster_time.ClusterTime.{ClusterTime}
use Rattle.cmd_build.specs.Commands.{command_document}
use Rattle.cmd_build.specs.Handshakes.{farewell_document, hello_document}
use Rattle.cmd_build.specs.Ops.{writes}
use Rattle.cmd_build.specs.declared.command.Act.{Act}
use Rattle.cmd_build.specs.declared.command.Act.TheVariants as act
use Rattle.cmd_build.specs.declared.command.Command.{Command}
use Rattle.cmd_build.specs.declared.extras.Extras.{Extras}
use Rattle.member_core.specs.Keys.{is_write}
use Rattle.msg_wire.specs.Framing.{frame}
use Rattle.desk_trail.specs.declared.request.Purpose.{Purpose}
use Rattle.desk_trail.specs.declared.request.Purpose.TheVariants as purpose
use Rattle.desk_trail.specs.declared.request.Request.{Request}
use Rattle.desk_trail.specs.Clients.{Client}
use Rattle.desk_trail.specs.Facts.{Fact}
use Rattle.desk_trail.specs.Facts as fact
use Rattle.desk_trail.specs.Legal.{AreLegal, Point, StandsAt, beginning, point_after, point_behind}
use Rattle.desk_trail.specs.Owed.{InTurn, MayAsk, Owed}
use Rattle.desk_trail.specs.Owed as owed
use Rattle.desk_trail.specs.Requests.{IsFor, document_sent, id_at}
use Rattle.request_keys.specs.Keys.{IsSeenAs}
use Rattle.request_keys.specs.Requests.{is_of_write, requests_on}
use Rattle.request_keys.proofs.HelloLemmas.{hello-framed}
use Rattle.request_keys.proofs.StreamLemmas.{AskedAt, asked-at}

-- ---- Which documents are writes

act-writes : (command : Command) (db : List ℕ) (extras : Extras) (time : Option ClusterTime) (a : Act) → command.act ≡ a →
    is_write (command_document command db extras time) ≡ writes command.act
act-writes command db extras time (act.Insert doc) e = rw e refl
act-writes command db extras time (act.Update filter change multi upsert) e = rw e refl
act-writes command db extras time (act.Delete filter all) e = rw e refl
act-writes command db extras time (act.FindAndModify filter change) e = rw e refl
act-writes command db extras time (act.Find filter read) e = rw e refl

hello-reads : (first : Bool) → is_write (hello_document first) ≡ false
hello-reads first = refl

-- ---- By purpose

hello-of : (owed : List Owed) (place : ℕ) (r : Request) → (MayAsk r.purpose → ⊥) → InTurn owed (fact.Asked place r) →
    (first : Bool) × (r.bytes ≡ frame r.id (pos 0) 0 (hello_document first))
hello-of [] place r not turn = absurd (not turn)
hello-of (owed.Hello of stream first ∷ ds) place r not turn = (first, turn.bytes)
hello-of (d ∷ ds) place r not turn = absurd turn

seen-hello : (client : Client) (place : ℕ) (r : Request) (first : Bool) → r.bytes ≡ frame r.id (pos 0) 0 (hello_document first) → r.id ≡ id_at place →
    is_of_write client r.purpose ≡ false → IsSeenAs client r
seen-hello client place r first bytes id reads = record {
  body = hello_document first;
  framed = rw (bytes, id) (hello-framed first place);
  writes = hello-reads first ∙ sym reads;
}

seen-by : (client : Client) (p : Point) (moment place : ℕ) (r : Request) → StandsAt client p (record { at = moment; what = fact.Asked place r }) → (u : Purpose) → r.purpose ≡ u →
    IsSeenAs client r
seen-by client p moment place r s (purpose.Command op) e =
    let is = subst (λ x. IsFor client p.state moment p.time x r) e s.rule.is_for in
    let c = is.sends.command in
    record {
      body = document_sent client p.state p.time op is.sends;
      framed = is.message.framed;
      writes = act-writes c client.settings.db is.sends.extras is.sends.cluster c.act refl
          ∙ sym (ap (is_of_write client) e ∙ ap (λ o. option_map_or (λ (x : Command). writes x.act) o false) is.sends.given);
    }
seen-by client p moment place r s (purpose.Check host) e =
    let h = hello-of p.owed place r (λ m. subst MayAsk e m) s.turn in
    seen-hello client place r h.0 h.1 s.rule.id (ap (is_of_write client) e)
seen-by client p moment place r s (purpose.Greeting host conn) e =
    let h = hello-of p.owed place r (λ m. subst MayAsk e m) s.turn in
    seen-hello client place r h.0 h.1 s.rule.id (ap (is_of_write client) e)
seen-by client p moment place r s purpose.Farewell e =
    let is = subst (λ x. IsFor client p.state moment p.time x r) e s.rule.is_for in
    record { body = farewell_document is.ids; framed = is.message.framed; writes = sym (ap (is_of_write client) e) }

-- ---- Along a trail

pub stands-at : (client : Client) (facts : List (Timed Fact)) (stream : ℕ) (r : Request) → AreLegal client facts → (a : AskedAt facts stream r) →
    StandsAt client (point_behind client a.front) (record { at = a.moment; what = fact.Asked a.place r })
stands-at client facts stream r l a =
    (Legal-rest (StandsAt client) (point_after client) (beginning client) a.front (record { at = a.moment; what = fact.Asked a.place r } ∷ a.behind)
    (subst (AreLegal client) a.split l)).0

pub is-seen : (client : Client) (facts : List (Timed Fact)) (stream nth : ℕ) (r : Request) → AreLegal client facts → slice_get (requests_on client facts stream) nth ≡ Some r →
    IsSeenAs client r
is-seen client facts stream nth r l e =
    let a = asked-at client facts stream nth r e in
    seen-by client (point_behind client a.front) a.moment a.place r (stands-at client facts stream r l a) r.purpose refl
