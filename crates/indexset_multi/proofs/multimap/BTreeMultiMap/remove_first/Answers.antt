use Rattle.indexset_multi.proofs.multimap.BTreeMultiMap.remove_first.Goals as goal

pub returns : goal.returns
returns g c =
    let is = c.first_place-place.ensures.pair in
    let done = c.take.ensures in
    record {
      tree = rw is at done.tree;
      answer = rw is at done.answer;
      refusal = rw is at done.refusal;
      no_event = rw is at done.no_event;
      unchanged = done.unchanged;
    }
