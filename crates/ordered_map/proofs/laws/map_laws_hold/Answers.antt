use Rattle.ordered_map.proofs.Maps.{inserted, insert_keeps, deleted, delete_keeps, edited_rises, same_values, after_insert, after_delete, after_pop, after_rule, neighbour_is, between_gives, between_rises, end_is, after_pop_last}
use Rattle.ordered_map.proofs.laws.map_laws_hold.Goals as goal

pub returns-clause-edits : goal.returns-clause-edits
returns-clause-edits c = record {
  inserted = inserted;
  insert_keeps = insert_keeps;
  deleted = deleted;
  delete_keeps = delete_keeps;
  rising = edited_rises;
  same = same_values;
}

pub returns-clause-rules : goal.returns-clause-rules
returns-clause-rules c = record {
  after_insert = after_insert;
  after_delete = after_delete;
  after_pop = after_pop;
  after_pop_last = after_pop_last;
  after_rule = after_rule;
}

pub returns-clause-reads : goal.returns-clause-reads
returns-clause-reads c = record {
  ends = end_is;
  neighbours = neighbour_is;
  between = between_gives;
  between_rises = between_rises;
}
