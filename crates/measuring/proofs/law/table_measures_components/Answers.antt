use Rattle.measure_terms.proofs.TableOfComponents.{table_measures}
use Rattle.measure_terms.proofs.RootFound.{root_is, mean_is}
use Rattle.measuring.proofs.law.table_measures_components.Goals as goal

pub returns-clause-components : goal.returns-clause-components
returns-clause-components c = table_measures

pub returns-clause-means : goal.returns-clause-means
returns-clause-means c = mean_is

pub returns-clause-roots : goal.returns-clause-roots
returns-clause-roots c = root_is
