-- The definitions fit together in every legal history.
use Rattle.std.proofs.Common.{ℕ, List}
use Rattle.reg_keys.specs.declared.entry.Entry.{Entry}
use Rattle.reg_keys.specs.Replies.{IsLegal}
use Rattle.reg_keys.specs.Consistency.{IsConsistent}
use Rattle.reg_keys.proofs.Ascending.{ascends, lists_ascend}
use Rattle.reg_keys.proofs.FlagsWait.{flags_agree}

pub is_consistent : (s c : ℕ) (past : List Entry) → IsLegal s c past → IsConsistent past
is_consistent s c past l = record {
  in_order = ascends s c past l;
  lists = lists_ascend s c past l;
  flags = (flags_agree s c past l).agree;
}
