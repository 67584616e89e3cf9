use Rattle.sound_means.proofs.Texts.{field_names_mean, names_mean, passed_means}
use Rattle.sound_means.proofs.laws.law_means.Goals as goal

pub returns-clause-means : goal.returns-clause-means
returns-clause-means c =
    passed_means c.law_accepted_means.ensures.means c.law_well_typed.ensures.well_typed c.law_written.ensures.written c.law_has_rows.ensures.has_rows

pub returns-clause-names : goal.returns-clause-names
returns-clause-names c = names_mean c.one_cutting.ensures c.law_written.ensures.written c.law_has_rows.ensures.has_rows

pub returns-clause-fields : goal.returns-clause-fields
returns-clause-fields c = field_names_mean c.one_cutting.ensures
