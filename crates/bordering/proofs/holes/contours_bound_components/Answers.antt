use Rattle.measure_terms.proofs.Theorem.{jordan_in_the_plane, jordan_in_the_frame, holes_in_the_plane, one_more_than_holes}
use Rattle.bordering.proofs.holes.contours_bound_components.Goals as goal

pub returns-clause-plane : goal.returns-clause-plane
returns-clause-plane c = λ X axes K part cycles are. jordan_in_the_plane X axes K cycles part are

pub returns-clause-frame : goal.returns-clause-frame
returns-clause-frame c = λ X axes K part cycles are. jordan_in_the_frame X axes K cycles part are

pub returns-clause-inner : goal.returns-clause-inner
returns-clause-inner c = λ X axes K part cycles are. holes_in_the_plane X axes K cycles part are

pub returns-clause-one_more : goal.returns-clause-one_more
returns-clause-one_more c = λ X axes K part cycles are. one_more_than_holes X axes K cycles part are
