-- After the slot was given back a mirror is tied to what its seat saw.
use Rattle.std.proofs.Common.{◌≡◌, List, [], ℕ, sym, refl, Ok, Err}
use Rattle.std.specs.Prelude.{Result, OnOk, OnErr}
use Rattle.std.proofs.lemmas.List.{append-nil}
use Rattle.std.proofs.lemmas.List.Elements.{All-nil}
use Rattle.std.proofs.Math.Seq.{drop-append_seam}
use mathlib.Core.List.{IsPrefix}
use Rattle.atomic_table.specs.Table.{Me}
use Rattle.obim_bags.specs.Entries.{EntriesSeen}
use Rattle.obim_bags.specs.Bags.{BagSeen}
use Rattle.obim_bags.specs.Indexes.{AreDistinct}
use Rattle.obim_bags.specs.Logs.{Gains, IsNew, MirrorSeen, AccessSeen, bags_in, metrics_in, metrics_of}
use Rattle.obim_bags.specs.Accesses.{AreGained, AccessesSeen}
use Rattle.obim_bags.specs.Mirrors.{IsTied}
use Rattle.obim_bags.specs.LogRule.{IsWithin}
use Rattle.obim_bags.specs.declared.log_rule.LogKnown.{LogKnown}
use Rattle.obim_bags.proofs.Prefixes.{prefix_map, prefix_self, prefix_trans}
use Rattle.obim_bags.proofs.Distinct.{distinct_beginning}

-- a list begins with the accesses, whether they were gained or stayed
pub accesses_begin : {X E : Type 0} (result : Result X E) (old new : List AccessSeen) (was bags : List BagSeen)
    → IsPrefix (bags_in old) was → IsPrefix was bags
    → OnOk result (bags_in new ≡ bags) → OnErr result (new ≡ old) → IsPrefix (bags_in new) bags
accesses_begin (Ok x) old new was bags begin longer gained stayed = rw gained (prefix_self bags)
accesses_begin (Err e) old new was bags begin longer gained stayed =
    rw stayed (prefix_trans (bags_in old) was bags begin longer)

-- the index of a mirror is a beginning of the metrics of the list in the slot
pub index_begins : (index : List ℕ) (known : LogKnown) (bags : List BagSeen) → IsPrefix index (metrics_of known.list)
    → IsWithin bags known
    → IsPrefix index (metrics_of bags)
index_begins index known bags begin within =
    prefix_trans index (metrics_of known.list) (metrics_of bags) begin
    (prefix_map (λ (bag : BagSeen). bag.metric) known.list bags within.list)

-- in what a mirror keeps no metric stands twice
pub distinct_places : {me : Me EntriesSeen LogKnown} (accesses : AccessesSeen) → IsTied me accesses
    → AreDistinct (metrics_in accesses.list)
distinct_places {me} accesses tied =
    distinct_beginning (metrics_in accesses.list) (metrics_of me.0.list) tied.distinct
    (prefix_map (λ (bag : BagSeen). bag.metric) (bags_in accesses.list) me.0.list tied.list)

pub gains : (old new : MirrorSeen) → new.log ≡ old.log → AreGained old.accesses new.accesses
    → AreDistinct (metrics_in new.accesses) → Gains old new
gains old new log gained distinct = record {
  log = log;
  kept = (gained.more, sym gained.kept);
  gained = rw (gained.kept, drop-append_seam old.accesses gained.more) gained.gained;
  distinct = distinct;
}

-- a mirror as it was
pub gains_none : (mirror : MirrorSeen) → AreDistinct (metrics_in mirror.accesses) → Gains mirror mirror
gains_none mirror = gains mirror mirror refl
    (record { more = []; kept = sym (append-nil mirror.accesses); gained = All-nil IsNew })
