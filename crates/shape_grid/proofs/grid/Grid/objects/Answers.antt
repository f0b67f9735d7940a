use Rattle.shape_terms.proofs.BoxLists.{objects_are}
use Rattle.shape_grid.proofs.grid.Grid.objects.Goals as goal

pub returns-clause-object : goal.returns-clause-object
returns-clause-object g c = objects_are c.args.self.now
