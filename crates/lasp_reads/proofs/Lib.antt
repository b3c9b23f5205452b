pub mod WakeLaws
