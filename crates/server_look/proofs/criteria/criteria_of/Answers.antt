use Rattle.std.proofs.Common.{sym, ap, ◌∙◌, ◌*◌}
use Rattle.std.specs.Option.{option_and_then}
use Rattle.conn_uri.specs.Configurations.{Configuration}
use Rattle.desk_trail.specs.States.{address_of}
use Rattle.server_look.proofs.criteria.criteria_of.Goals as goal

pub returns : goal.returns
returns c = record {
  asks = λ client w of. record {
    needs = c.need_of.ensures.need client of.settings;
    avoids = c.avoided.ensures.avoid w of.servers ∙ ap (option_and_then (address_of w)) c.first_tried.ensures.first;
    within = ap (λ (s : Configuration). s.threshold_ms * 1000) (c.settings.view_is ∙ sym of.settings);
  };
}
