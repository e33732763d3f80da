use Rattle.std.proofs.Common.{◌≡◌, ◌∙◌, [], true, false, sym, length, take, eqb-true}
use Rattle.net_link.specs.Script.{Ends, IsLive-below, line_at, piece_size, unread}
use Rattle.net_link.proofs.ScriptLemmas.{Adds-read, Keeps-read, ReadsInbox-given, front-nil, length-front, take-length-take}
use Rattle.net_link.proofs.script_net.ScriptNetNet.read.Goals as goal

pub give-requires-clause-front : goal.give-requires-clause-front
give-requires-clause-front c =
    let line = line_at c.args.self.now.lines c.args.stream in
    let copied : c.in-Ok-take.bytes ≡ c.front-front.result.now = c.in-Ok-take.ensures.value in
    rw (copied, c.front-front.ensures) (take-length-take (piece_size (length c.args.into.now) line) line.left)

pub returns-then-not-is_empty-clause-keeps : goal.returns-then-not-is_empty-clause-keeps
returns-then-not-is_empty-clause-keeps c = rw c.give.ensures.state (Keeps-read c.args.stream c.give.new.into c.give.result c.args.self.now)

pub returns-then-not-is_empty-clause-told : goal.returns-then-not-is_empty-clause-told
returns-then-not-is_empty-clause-told c = rw c.give.ensures.state (Adds-read c.args.stream c.give.new.into c.give.result c.args.self.now)

pub returns-then-not-is_empty-clause-inbox : goal.returns-then-not-is_empty-clause-inbox
returns-then-not-is_empty-clause-inbox c =
    let line = line_at c.args.self.now.lines c.args.stream in
    let copied : c.in-Ok-take.bytes ≡ c.front-front.result.now = c.in-Ok-take.ensures.value in
    let front : c.in-Ok-take.bytes ≡ take (length c.in-Ok-take.bytes) line.left =
    rw (copied, c.front-front.ensures) (take-length-take (piece_size (length c.args.into.now) line) line.left) in
    let given = IsLive-below c.args.self.now.lines c.args.stream c.requires.is_open in
    rw c.give.ensures.state (ReadsInbox-given c.args.stream c.in-Ok-take.bytes c.give.new.into c.give.result c.args.self.now given front c.give.ensures.given)

pub returns-then-not-is_empty-clause-most : goal.returns-then-not-is_empty-clause-most
returns-then-not-is_empty-clause-most c n got =
    let copied : c.in-Ok-take.bytes ≡ c.front-front.result.now = c.in-Ok-take.ensures.value in
    let given = rw got at c.give.ensures.given in
    given.0 ∙ rw (copied, c.front-front.ensures) (length-front (length c.args.into.now) (line_at c.args.self.now.lines c.args.stream))

pub returns-in-Ok-note-clause-inbox : goal.returns-in-Ok-note-clause-inbox
unfolding unread Ends
returns-in-Ok-note-clause-inbox c =
    let line = line_at c.args.self.now.lines c.args.stream in
    let none = rw c.front-front.ensures at (eqb-true (length c.front-front.result.now) 0 (sym c.is_empty.ensures ∙ c.if-not-is_empty.false)) in
    let empty : line.left ≡ [] = front-nil (length c.args.into.now) line c.requires.piece none in
    (empty, rw c.in-Ok-note.ensures.ok empty, rw c.in-Ok-note.ensures.ok (sym c.ends.ensures ∙ c.if-ends.true))

pub returns-in-Ok-note-2-clause-inbox : goal.returns-in-Ok-note-2-clause-inbox
unfolding unread Ends
returns-in-Ok-note-2-clause-inbox c =
    let line = line_at c.args.self.now.lines c.args.stream in
    let none = rw c.front-front.ensures at (eqb-true (length c.front-front.result.now) 0 (sym c.is_empty.ensures ∙ c.if-not-is_empty.false)) in
    let empty : line.left ≡ [] = front-nil (length c.args.into.now) line c.requires.piece none in (
      empty,
      rw c.in-Ok-note-2.ensures.ok empty,
      λ ends.
          let goes_on : line.ends ≡ false = sym c.ends.ensures ∙ c.if-ends.false in
          let yes : line.ends ≡ true = rw c.in-Ok-note-2.ensures.ok at ends in
          let never : ⊥ = cc in
          never,
    )
