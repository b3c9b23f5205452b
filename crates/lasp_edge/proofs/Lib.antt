mod ShelfLaws
mod LoopLaws
