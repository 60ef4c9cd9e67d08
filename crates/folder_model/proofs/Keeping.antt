-- A folder keeps what it was answered.
use Rattle.std.proofs.Common.{◌≡◌, inl, inr, List, [], ◌∷◌, sym, subst}
use Rattle.folder_model.specs.Parts.{Parts, IsSafe}
use Rattle.folder_model.specs.World.{World}
use Rattle.folder_model.specs.Run.{Event, Run, AtSome, HasPut}
use Rattle.folder_model.specs.Folders.{FoldersKeep}
use Rattle.folder_model.proofs.All.{folder_model_laws}

at_some : (P Q : World → Type 0) → ((w : World) → P w → Q w) → (parts : Parts) (events : List Event) (d e : World) (run : Run parts events d e) → AtSome P parts events d e run → AtSome Q parts events d e run
at_some P Q f parts [] d e run h = f e h
at_some P Q f parts (event ∷ earlier) d e run (inl h) = inl (f e h)
at_some P Q f parts (event ∷ earlier) d e run (inr h) = inr (at_some P Q f parts earlier d run.0 run.1 h)

at_end : (P : World → Type 0) (parts : Parts) (events : List Event) (d e : World) (run : Run parts events d e) → P e → AtSome P parts events d e run
at_end P parts [] d e run h = h
at_end P parts (event ∷ earlier) d e run h = inl h

pub folders_keep : FoldersKeep
folders_keep parts =
    let laws = folder_model_laws in
    record {
      stays = λ m n c later safe. laws.safe parts n.events n.first n.now n.run n.fair c
          (at_some (λ (w : World). w ≡ m.now) (λ (w : World). IsSafe parts w.disk c) (λ w is. subst (λ (v : World). IsSafe parts v.disk c) (sym is) safe) parts n.events n.first n.now n.run later);
      answered = λ m p c told. laws.put parts m.events m.first m.now m.run m.fair c (at_end (HasPut parts c) parts m.events m.first m.now m.run (p, told));
      reads = λ m p c began. laws.reads parts m.events m.first m.now m.run m.fair p began.0 c began.1;
    }
