pub mod OneGridOnBothSides
