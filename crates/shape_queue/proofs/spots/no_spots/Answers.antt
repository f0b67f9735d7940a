use Rattle.shape_queue.proofs.spots.no_spots.Goals as goal

pub returns : goal.returns
returns c = c.in_ok-cells.ensures.items_if_clones_equal (λ y e. e)
