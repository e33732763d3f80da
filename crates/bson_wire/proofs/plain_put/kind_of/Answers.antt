use Rattle.std.proofs.Common.{sym, ap}
use Rattle.bson_doc.specs.wire.Spelled.{Payload}
use Rattle.bson_wire.proofs.Payloads.{payload-Str, payload-Doc, payload-Array, payload-Scope, payload-Binary, payload-Bool, payload-Regex, payload-DbPointer, payload-Code, payload-Symbol, payload-Stamp}
use Rattle.bson_wire.proofs.plain_put.kind_of.Goals as goal

pub returns-in-Str : goal.returns-in-Str
returns-in-Str c = sym (ap (λ (p : Payload). p.0) (payload-Str _ _ c.in-Str.is))

pub returns-in-Doc : goal.returns-in-Doc
returns-in-Doc c = sym (ap (λ (p : Payload). p.0) (payload-Doc _ _ c.in-Doc.is))

pub returns-in-Array : goal.returns-in-Array
returns-in-Array c = sym (ap (λ (p : Payload). p.0) (payload-Array _ _ c.in-Array.is))

pub returns-in-Scope : goal.returns-in-Scope
returns-in-Scope c = sym (ap (λ (p : Payload). p.0) (payload-Scope _ _ _ c.in-Scope.is))

pub returns-in-Binary : goal.returns-in-Binary
returns-in-Binary c = sym (ap (λ (p : Payload). p.0) (payload-Binary _ _ _ c.in-Binary.is))

pub returns-in-Bool : goal.returns-in-Bool
returns-in-Bool c = sym (ap (λ (p : Payload). p.0) (payload-Bool _ _ c.in-Bool.is))

pub returns-in-Regex : goal.returns-in-Regex
returns-in-Regex c = sym (ap (λ (p : Payload). p.0) (payload-Regex _ _ _ c.in-Regex.is))

pub returns-in-DbPointer : goal.returns-in-DbPointer
returns-in-DbPointer c = sym (ap (λ (p : Payload). p.0) (payload-DbPointer _ _ _ c.in-DbPointer.is))

pub returns-in-Code : goal.returns-in-Code
returns-in-Code c = sym (ap (λ (p : Payload). p.0) (payload-Code _ _ c.in-Code.is))

pub returns-in-Symbol : goal.returns-in-Symbol
returns-in-Symbol c = sym (ap (λ (p : Payload). p.0) (payload-Symbol _ _ c.in-Symbol.is))

pub returns-in-Stamp : goal.returns-in-Stamp
returns-in-Stamp c = sym (ap (λ (p : Payload). p.0) (payload-Stamp _ _ c.in-Stamp.is))
