use Rattle.std.proofs.Common.{◌≡◌, ◌-◌, ◌≤◌}
use Rattle.sheet.specs.Outcome.{runs}
use Rattle.sheet.proofs.part.read_part.Given as goal

-- what is left to read gives all
abbrev pub invariant-loop : goal.invariant-loop
invariant-loop g l = record {
  left :
      runs (λ _ s. g.P.Part.item l.known l.initial.r.bytes.now s) (l.count - l.counter) l.counter (g.P.Part.value l.all, l.r.at)
      ≡ runs (λ _ s. g.P.Part.item l.known l.initial.r.bytes.now s) l.count 0 (g.P.Part.none, l.initial.r.at);
  same : l.r.bytes.now ≡ l.initial.r.bytes.now;
  after : g.P.Part.after l.counter l.all;
  few : l.count ≤ g.P.Part.most;
}
